-- What a table answers.
use Rattle.std.specs.Prelude.{◌≡◌, ℕ, ◌<◌, List, length, take, Option, Some, None, Result, Ok, Err}
use Rattle.std.specs.Option.{IsSomeAnd}
use Rattle.race_model.specs.Prelude.{version_by, version_of, bound_of, IsFile, IsFirstHeaderFault}
use Rattle.db_layout.specs.HeaderFaults.{test_of}
use Rattle.db_layout.specs.declared.header.Header.{Header}
use Rattle.db_reader.specs.declared.table.TableFault.{TableFault}
use Rattle.db_reader.specs.declared.table.TableFault.TheVariants.{Bad, Read}

-- a header whose version and bound are those of these bytes, which are a file
pub record HasHeader (f : List ℕ) (header : Header) : Type 0 where
  pub file : IsFile f
  pub bound_is : header.bound ≡ bound_of f
  pub version_is : version_by header.version ≡ version_of f

-- the answer about the header of these bytes: the header that they have as a
-- file by their length and places; else the first fault of the header
abbrev pub IsHeaderOf : List ℕ → Result Header TableFault → Type 0
IsHeaderOf file (Ok header) = HasHeader file header
IsHeaderOf file (Err (Bad fault)) = IsFirstHeaderFault (take 32 file) (length file) (test_of fault)
IsHeaderOf file (Err Read) = Unit {0}

-- the header that a table has accepted by this answer
abbrev pub accepted_by : Result Header TableFault → Option Header
accepted_by (Ok header) = Some header
accepted_by (Err fault) = None

-- a rank under the count of the accepted header
abbrev pub HasRecord : Option Header → ℕ → Type 0
HasRecord accepted rank = IsSomeAnd accepted (λ header. rank < header.count)
