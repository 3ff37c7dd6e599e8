-- A whole file: a header, and one record after another.
use Rattle.std.specs.Prelude.{ℕ, zero, suc, List, [], ◌++◌}
use Rattle.race_model.specs.Prelude.{Version, header}

-- the records of n ranks from a rank on, one after another
unfoldable pub records_from : (ℕ → List ℕ) → ℕ → ℕ → List ℕ
records_from bytes r zero = []
records_from bytes r (suc n) = bytes r ++ records_from bytes (suc r) n

-- a header, and a record for each of the first n ranks
abbrev pub file_of : Version → ℕ → (ℕ → List ℕ) → ℕ → List ℕ
file_of version bound bytes n = header version bound ++ records_from bytes 0 n
