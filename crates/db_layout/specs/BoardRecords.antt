-- What is stored for one position.
use Rattle.std.specs.Prelude.{◌≡◌, ℕ, List, length, take}

-- the pip count of a position, and the bytes of its record
pub record Stored : Type 0 where
  pub pips : ℕ
  pub bytes : List ℕ

-- the bytes before a place stay, and their number
pub record KeepsBefore (place : ℕ) (old new : List ℕ) : Type 0 where
  pub bytes : take place new ≡ take place old
  pub len : length new ≡ length old
