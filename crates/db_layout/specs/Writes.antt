-- What a writer was given, where it tells its bytes.
use Rattle.std.specs.Prelude.{ℕ, List, Option, take}
use Rattle.std.specs.Io.KnownBytes.{Appends}

-- the known bytes grew by a prefix of these bytes
abbrev pub AppendsPart : Option (List ℕ) → Option (List ℕ) → List ℕ → Type 0
AppendsPart old new bytes = (k : ℕ) × Appends old new (take k bytes)
