-- What is said of bytes that are told. A list of bytes in memory tells them; a file of the system
-- tells nothing.
use Rattle.std.specs.Prelude.{◌≡◌, ℕ, ◌<◌, List, Option, Some}

-- where bytes are told, this holds of them
abbrev pub WhereTold : Option (List ℕ) → (List ℕ → Type 0) → Type 0
WhereTold told P = (file : List ℕ) → told ≡ Some file → P file

-- the count of failures rose where this holds, and is as it was where it doesn't
pub record RoseWhere (Failed : Type 0) (before now : ℕ) : Type 0 where
  pub rose : Failed → before < now
  pub same : ¬ Failed → now ≡ before
