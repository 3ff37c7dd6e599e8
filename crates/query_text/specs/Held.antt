-- Bytes that wait to be written, and what a writer was given of them, where it tells its bytes.
use Rattle.std.specs.Prelude.{◌≡◌, ℕ, List, ◌++◌, Option}
use Rattle.std.specs.Io.KnownBytes.{Appends}

-- the known bytes and those that wait, before and after, have together grown by these bytes
pub record Takes (old new : Option (List ℕ)) (before after bytes : List ℕ) : Type 0 where
  pub written : List ℕ
  pub appended : Appends old new written
  pub joined : before ++ bytes ≡ written ++ after
