-- The numbers of a row by their places, whichever die it is.
use Rattle.std.proofs.Common.{◌≡◌, ℕ, ◌-◌, ◌%◌, [], List, ◌∷◌, length, ap, refl, ◌∙◌, arith}
use Rattle.std.proofs.Common.{slice_index, slice_index_or}
use Rattle.race_model.specs.Prelude.{Die, one, two, three, four, five, six, number}
use Rattle.least_plays.specs.Known.{row_in, number_in, kept_in}
use Rattle.least_plays.specs.declared.room.Row.{Row}
use Rattle.least_plays.proofs.room.LeastPlays.kept.Goals as goal

-- a number of a row
at : Row → ℕ → ℕ → ℕ
at row i n = slice_index (slice_index_or row.after i []) n

-- what the code makes of a row
made : ℕ → List Row → ℕ → ℕ → ℕ → List ℕ
made size rows place r own =
    let row = slice_index_or rows (place % size) (record { after = [] }) in
    at row 0 0 ∷ at row 1 0 ∷ at row 2 0 ∷ at row 3 0 ∷ at row 4 0 ∷ at row 5 0 ∷ r
    ∷ at row own 1 ∷ at row own 2 ∷ []

-- it is what is kept
made-is : (rows : List Row) (r : ℕ) (d : Die) →
    made (length rows) rows r r (number d - 1) ≡ kept_in rows r d
unfolding number_in row_in kept_in made at
made-is rows r one = refl
made-is rows r two = refl
made-is rows r three = refl
made-is rows r four = refl
made-is rows r five = refl
made-is rows r six = refl

pub returns : goal.returns
unfolding made at
returns g c = λ d is.
    let long : g.row.ROWS ≡ length c.args.self.now.rows = omega arith in
    let own : c.args.index ≡ number d - 1 = omega (arith, is) in
    ap (λ place. made g.row.ROWS c.args.self.now.rows place c.args.rank c.args.index)
    c.from.ensures
    ∙ ap (made g.row.ROWS c.args.self.now.rows c.args.rank c.args.rank) own
    ∙ ap (λ n. made n c.args.self.now.rows c.args.rank c.args.rank (number d - 1)) long
    ∙ made-is c.args.self.now.rows c.args.rank d
