-- The file that the builder writes: of the plays to a least
-- mean it records the one to the lowest rank.
use Rattle.std.specs.Prelude.{◌≡◌, ℕ, ◌≤◌, List}
use Rattle.race_model.specs.Positions.{Board, IsPosition, pips}
use Rattle.race_model.specs.Dice.{Throw, IsRoll}
use Rattle.race_model.specs.Plays.{Legal}
use Rattle.race_model.specs.Ranks.{rank}
use Rattle.race_model.specs.Versions.{Version}
use Rattle.race_model.specs.Files.{IsBytes, version_of, bound_of, mean, mean_at, play}
use Rattle.race_model.specs.LocalEquations.{IsLocalDatabase}

-- no result of the throw with the recorded mean has a lower rank than the recorded one
abbrev pub IsLowest : List ℕ → Board → Throw → Type 0
IsLowest f x v =
    (z : Board) → Legal x v z → mean f z ≡ mean_at f (play f x v) → play f x v ≤ rank z

-- the built file of a version and a bound. That it is one of bytes leaves
-- one list alone: its numbers fix its bytes
pub record IsBuilt (version : Version) (bound : ℕ) (f : List ℕ) : Type 0 where
  pub bytes : IsBytes f
  pub version_is : version_of f ≡ version
  pub bound_is : bound_of f ≡ bound
  pub local : IsLocalDatabase f
  pub lowest : (x : Board) → IsPosition x → pips x ≤ bound → (v : Throw) → IsRoll v →
      IsLowest f x v
