-- The best of some positions: the least mean and, of equal means, the lowest rank. The builder
-- records the best result of each roll.
use Rattle.std.specs.Prelude.{◌≡◌, ℕ, ◌≤◌}
use Rattle.race_model.specs.Positions.{Board}
use Rattle.race_model.specs.Dice.{Throw}
use Rattle.race_model.specs.Plays.{Legal}
use Rattle.race_model.specs.Ranks.{rank}

-- r is the rank of one of the positions that are reached, none of them has a smaller mean (the
-- mean goes by the rank), and none of as great a mean a lower rank
pub record IsBestOf (mean : ℕ → ℕ) (Reached : Board → Type 0) (r : ℕ) : Type 0 where
  pub reached : (z : Board) × (Reached z) × (rank z ≡ r)
  pub least : (z : Board) → Reached z → mean r ≤ mean (rank z)
  pub lowest : (z : Board) → Reached z → mean (rank z) ≡ mean r → r ≤ rank z

-- r is the rank of the best result of a throw
abbrev pub IsBestPlay : (ℕ → ℕ) → Board → Throw → ℕ → Type 0
IsBestPlay mean x v r = IsBestOf mean (Legal x v) r
