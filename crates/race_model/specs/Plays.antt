-- What a throw may do with a position. Source: the bearing-off rules of backgammon.
use Rattle.std.specs.Prelude.{◌≡◌, ◌≢◌, ℕ, ◌-◌, ◌<◌, ◌≤◌, ◌⊎◌, List, [], ◌∷◌}
use Rattle.race_model.specs.Positions.{Board, count, fewer, more, IsFinished, IsHighest}
use Rattle.race_model.specs.Dice.{Die, number, Throw}

-- a die that shows d moves one checker from point s, and y is what comes of it
pub data StepFrom (x : Board) (d s : ℕ) (y : Board) : Type 0 where
  -- from the die's own point a checker is borne off
  bear_off : s ≡ d → 0 < count x s → y ≡ fewer x s → StepFrom x d s y
  -- from a higher point a checker moves down
  move_down : d < s → 0 < count x s → y ≡ more (fewer x s) (s - d) → StepFrom x d s y
  -- where the die's point and all higher ones are empty, a
  -- checker is borne off from the highest point
  from_highest : ((p : ℕ) → d ≤ p → count x p ≡ 0) → IsHighest x s → y ≡ fewer x s →
      StepFrom x d s y

-- the die moves one checker of x, and y is what comes of it
abbrev pub Step : Board → Die → Board → Type 0
Step x d y = (s : ℕ) × StepFrom x (number d) s y

-- the dice are played one after another, until they are used or no checker is left
abbrev pub Run : Board → List Die → Board → Type 0
Run x [] y = y ≡ x
Run x (d ∷ dice) y =
    (IsFinished x × (y ≡ x)) ⊎ ((¬ IsFinished x) × ((z : Board) × (Step x d z × Run z dice y)))

-- a throw can lead from x to y: two different dice in either order, a double four times
pub data Legal (x : Board) (v : Throw) (y : Board) : Type 0 where
  in_order : v.first ≢ v.second → Run x (v.first ∷ v.second ∷ []) y → Legal x v y
  in_reverse : v.first ≢ v.second → Run x (v.second ∷ v.first ∷ []) y → Legal x v y
  double : v.first ≡ v.second → Run x (v.first ∷ v.first ∷ v.first ∷ v.first ∷ []) y → Legal x v y
