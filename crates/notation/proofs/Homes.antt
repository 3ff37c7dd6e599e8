-- The checkers in the home board are no more than all.
use Rattle.std.proofs.Common.{◌≡◌, ℕ, ◌≤◌, List, [], ◌∷◌, length, sum, get_or, arith}
use Rattle.race_model.specs.Prelude.{checkers}
use Rattle.race_model.proofs.Numbers.Sums.{sum-cons}

-- of at most 15 checkers, at most 15 are on the points 1 to 6
pub few_at_home : (side : List ℕ) → length side ≡ 25 → sum side ≤ 15 →
    checkers (get_or side 0 0 ∷ get_or side 1 0 ∷ get_or side 2 0 ∷ get_or side 3 0
    ∷ get_or side 4 0 ∷ get_or side 5 0 ∷ []) ≤ 15
few_at_home [] h few = absurd (omega arith)
few_at_home (a ∷ []) h few = absurd (omega arith)
few_at_home (a ∷ b ∷ []) h few = absurd (omega arith)
few_at_home (a ∷ b ∷ c ∷ []) h few = absurd (omega arith)
few_at_home (a ∷ b ∷ c ∷ d ∷ []) h few = absurd (omega arith)
few_at_home (a ∷ b ∷ c ∷ d ∷ e ∷ []) h few = absurd (omega arith)
few_at_home (a ∷ b ∷ c ∷ d ∷ e ∷ f ∷ xs) h few =
    omega (
      arith,
      sum-cons a (b ∷ c ∷ d ∷ e ∷ f ∷ xs),
      sum-cons b (c ∷ d ∷ e ∷ f ∷ xs),
      sum-cons c (d ∷ e ∷ f ∷ xs),
      sum-cons d (e ∷ f ∷ xs),
      sum-cons e (f ∷ xs),
      sum-cons f xs,
    )
