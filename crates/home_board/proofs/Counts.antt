-- How the counts of a position's points hang together.
use Rattle.std.proofs.Common.{◌≡◌, ℕ, ◌+◌, ◌<◌, ◌≤◌, List, [], ◌∷◌, length, map, min, get_or}
use Rattle.std.proofs.Common.{arith, refl, ap, ◌∙◌}
use Rattle.race_model.specs.Prelude.{checkers}
use Rattle.race_model.specs.Positions.{count}
use Rattle.race_model.proofs.Numbers.Sums.{sum-cons}

-- the checkers are those of the six points
pub checkers-by_point : (x : List ℕ) → length x ≡ 6 →
    checkers x ≡ count x 1 + count x 2 + count x 3 + count x 4 + count x 5 + count x 6
checkers-by_point [] h = absurd (omega arith)
checkers-by_point (a ∷ []) h = absurd (omega arith)
checkers-by_point (a ∷ b ∷ []) h = absurd (omega arith)
checkers-by_point (a ∷ b ∷ c ∷ []) h = absurd (omega arith)
checkers-by_point (a ∷ b ∷ c ∷ d ∷ []) h = absurd (omega arith)
checkers-by_point (a ∷ b ∷ c ∷ d ∷ e ∷ []) h = absurd (omega arith)
checkers-by_point (a ∷ b ∷ c ∷ d ∷ e ∷ f ∷ []) h = omega arith
checkers-by_point (a ∷ b ∷ c ∷ d ∷ e ∷ f ∷ g ∷ xs) h = absurd (omega arith)

-- where every point is empty, all checkers are borne off
pub checkers-none : (x : List ℕ) (p : ℕ) → length x ≡ 6 → p < 1 →
    ((q : ℕ) → p < q → count x q ≡ 0) → checkers x ≡ 0
checkers-none x p h low empty =
    omega (
      arith,
      checkers-by_point x h,
      empty 1 (omega arith),
      empty 2 (omega arith),
      empty 3 (omega arith),
      empty 4 (omega arith),
      empty 5 (omega arith),
      empty 6 (omega arith),
    )

-- a list of six is its six elements
pub listed_six : (x : List ℕ) → length x ≡ 6 →
    get_or x 0 0 ∷ get_or x 1 0 ∷ get_or x 2 0 ∷ get_or x 3 0 ∷ get_or x 4 0 ∷ get_or x 5 0 ∷ []
    ≡ x
listed_six [] h = absurd (omega arith)
listed_six (a ∷ []) h = absurd (omega arith)
listed_six (a ∷ b ∷ []) h = absurd (omega arith)
listed_six (a ∷ b ∷ c ∷ []) h = absurd (omega arith)
listed_six (a ∷ b ∷ c ∷ d ∷ []) h = absurd (omega arith)
listed_six (a ∷ b ∷ c ∷ d ∷ e ∷ []) h = absurd (omega arith)
listed_six (a ∷ b ∷ c ∷ d ∷ e ∷ f ∷ []) h = refl
listed_six (a ∷ b ∷ c ∷ d ∷ e ∷ f ∷ g ∷ xs) h = absurd (omega arith)

-- counts of which those over 255 are 255
abbrev pub capped : List ℕ → List ℕ
capped counts = map (λ count. min count 255) counts

-- counts of which those over 255 are 255 are no more checkers
checkers-capped : (counts : List ℕ) → checkers (capped counts) ≤ checkers counts
checkers-capped [] = omega arith
checkers-capped (c ∷ cs) =
    omega (arith, sum-cons (min c 255) (capped cs), sum-cons c cs, checkers-capped cs)

-- counts of at most 15 checkers after that are the counts themselves
capped_few : (counts : List ℕ) → checkers (capped counts) ≤ 15 → capped counts ≡ counts
capped_few [] few = refl
capped_few (c ∷ cs) few =
    let rest = capped_few cs (omega (arith, sum-cons (min c 255) (capped cs), few)) in
    let first : min c 255 ≡ c = omega (arith, sum-cons (min c 255) (capped cs), few) in
    cc

-- what is kept of some counts is these, where it is at most 15 checkers
pub kept_few : (told kept : List ℕ) → kept ≡ capped told → checkers kept ≤ 15 → kept ≡ told
kept_few told kept is few = is ∙ capped_few told (rw (← is) few)

-- where more than 15 checkers are kept of some counts, these are more
pub kept_many : (told kept : List ℕ) → kept ≡ capped told → 15 < checkers kept → 15 < checkers told
kept_many told kept is many = omega (arith, many, ap checkers is, checkers-capped told)
