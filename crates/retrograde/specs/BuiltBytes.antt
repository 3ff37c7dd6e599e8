-- The built file of a version and a bound, and what a build says.
use Rattle.std.specs.Prelude.{ℕ, ◌<◌, ◌≤◌, List, Option, Result, Ok, Err}
use Rattle.std.specs.Io.KnownBytes.{Appends, Keeps}
use Rattle.race_model.specs.Prelude.{IsBuilt, count_to, Version}
use Rattle.db_layout.specs.WholeFiles.{file_of}
use Rattle.db_layout.specs.Writes.{AppendsPart}
use Rattle.retrograde.specs.AllRecords.{AllRecords, bytes_of_rank}
use Rattle.retrograde.specs.declared.build_fault.BuildFault.{BuildFault}
use Rattle.retrograde.specs.declared.build_fault.BuildFault.TheVariants.{OverBound, Memory, Write}

-- the built file of a version and a bound, up to a rank
abbrev pub built_to : Version → AllRecords → ℕ → ℕ → List ℕ
built_to version full bound n = file_of version bound (bytes_of_rank version full) n

-- the whole built file of a version and a bound
abbrev pub built_file : Version → AllRecords → ℕ → List ℕ
built_file version full bound = built_to version full bound (count_to bound)

-- the built file of the version and the bound was written, and nothing else
abbrev pub WritesBuilt : Version → ℕ → Option (List ℕ) → Option (List ℕ) → Type 0
WritesBuilt version bound old new =
    (f : List ℕ) × (IsBuilt version bound f) × (Appends old new f)

-- a prefix of the built file of the version and the bound was written
abbrev pub WritesPart : Version → ℕ → Option (List ℕ) → Option (List ℕ) → Type 0
WritesPart version bound old new =
    (f : List ℕ) × (IsBuilt version bound f) × (AppendsPart old new f)

-- what was written where a build was refused:
-- nothing, or a prefix of the built file of the version and the bound
abbrev pub IsRefusedBy : Version → ℕ → Option (List ℕ) → Option (List ℕ) → BuildFault → Type 0
IsRefusedBy version bound old new OverBound = (58 < bound) × (Keeps old new)
IsRefusedBy version bound old new Memory = (bound ≤ 58) × WritesPart version bound old new
IsRefusedBy version bound old new Write = (bound ≤ 58) × WritesPart version bound old new

-- what a build of the version and the bound has written at its end, where it answers so
abbrev pub Builds : {T : Type 0} → Version → ℕ → Option (List ℕ) → Option (List ℕ)
    → Result T BuildFault → Type 0
Builds version bound old new (Ok done) = WritesBuilt version bound old new
Builds version bound old new (Err fault) = IsRefusedBy version bound old new fault
