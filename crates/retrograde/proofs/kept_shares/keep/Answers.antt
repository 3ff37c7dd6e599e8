-- The shares of the next rank stand at its place, and those before it stay.
use Rattle.std.proofs.Common.{◌≡◌, ℕ, ◌+◌, ◌*◌, ◌<◌, List, ap, sym, ◌∙◌, arith, get_or-set_other, get_or-set_same}
use Rattle.std.proofs.Common.{slice_index, slice_set}
use Rattle.std.specs.Int.{w128, from_le_bytes}
use Rattle.race_model.specs.Prelude.{bytes_at}
use Rattle.retrograde.proofs.KeptShares.{kept-are, kept-agree}
use Rattle.retrograde.proofs.kept_shares.keep.Goals.{After-put_shares}
use Rattle.retrograde.proofs.kept_shares.keep.Goals as goal

-- where the next rank's shares begin
module _ (c : After-put_shares) (next : ℕ) where
  abbrev places : List ℕ
  places = slice_set c.args.places.now (c.from-index.result + 1) next

  -- the places up to that of this rank stay
  stays : (r : ℕ) → r < c.args.rank + 1 → slice_index places r ≡ slice_index c.args.places.now r
  stays r lt =
      get_or-set_other c.args.places.now (c.from-index.result + 1) r next 0
      (λ same. omega (arith, same, lt, c.from-index.ensures))

  -- the place of the next rank is there
  at_next : slice_index places (c.args.rank + 1) ≡ next
  at_next =
      ap (λ r. slice_index places (r + 1)) (sym c.from-index.ensures)
      ∙ get_or-set_same c.args.places.now (c.from-index.result + 1) next 0
      (omega (arith, c.requires.more, c.from-index.ensures))

pub returns-clause-kept : goal.returns-clause-kept
returns-clause-kept c =
    let here = (goal.at.returns-clause-kept c).After-put_shares in
    let next = slice_index c.args.places.now c.from-index.result + 16 * c.from.result in
    let start = stays here next c.args.rank (omega arith) in
    let from : slice_index c.args.places.now c.from-index.result
    ≡ slice_index c.args.places.now c.args.rank
    = ap (slice_index c.args.places.now) c.from-index.ensures in
    kept-are c.put_shares.new.room (places here next) c.args.rank c.args.end c.args.spread.now
    c.at-start.ensures.len
    (omega (arith, at_next here next, start, from, c.from.ensures))
    (omega (arith, start, c.requires.fits, c.put_shares.ensures.len))
    (λ k under.
    ap (λ n. from_le_bytes w128 (bytes_at c.put_shares.new.room (n + 16 * k) 16))
    (start ∙ sym from)
    ∙ c.put_shares.ensures.put k under)
    c.requires.none

pub returns-clause-others : goal.returns-clause-others
returns-clause-others c r lt =
    let here = (goal.at.returns-clause-others c).After-put_shares in
    let next = slice_index c.args.places.now c.from-index.result + 16 * c.from.result in
    let from : slice_index c.args.places.now c.from-index.result
    ≡ slice_index c.args.places.now c.args.rank
    = ap (slice_index c.args.places.now) c.from-index.ensures in
    kept-agree c.args.room.now c.put_shares.new.room c.args.places.now (places here next) r
    (slice_index c.args.places.now c.from-index.result) c.put_shares.ensures.front
    (stays here next r (omega arith)) (stays here next (r + 1) (omega arith))
    (c.requires.placed.next r lt)
    (omega (arith, from, c.requires.placed.rise (r + 1) (omega (arith, lt))))
