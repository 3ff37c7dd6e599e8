-- What is said of both kinds of file.
use Rattle.std.specs.Prelude.{ℕ, List, Option, Some, None}
use Rattle.std.specs.Io.KnownBytes.{Appends}
use Rattle.race_model.specs.Prelude.{IsBuilt}
use Rattle.retrograde.specs.UsualVersion.{usual_version}
use Rattle.retrograde.specs.BuiltBoards.{IsBuiltBoard}
use Rattle.epc_query.specs.Kinds.{stated_kind}
use Rattle.db_layout.specs.declared.stated.Kind.{Kind}
use Rattle.db_layout.specs.declared.stated.Kind.TheVariants.{Database, Board}

-- the given kind, or that one
abbrev pub kind_as : Option Kind → List ℕ → Kind
kind_as None f = stated_kind f
kind_as (Some kind) f = kind

-- what is asked for: a board file, or else a file of the kind that its header states
abbrev pub asked_as : Kind → Option Kind
asked_as Database = None
asked_as Board = Some Board

-- the kind as which a file is taken
abbrev pub taken_as : Kind → List ℕ → Kind
taken_as asked = kind_as (asked_as asked)

-- the greatest pip bound of a file of this kind
abbrev pub greatest : Kind → ℕ
greatest Database = 58
greatest Board = 90

-- the bytes are the built file of this kind and this bound
abbrev pub IsBuiltOf : Kind → ℕ → List ℕ → Type 0
IsBuiltOf Database bound = IsBuilt (usual_version bound) bound
IsBuiltOf Board bound = IsBuiltBoard bound

-- the built file of this kind and this bound was written
abbrev pub WritesBuiltOf : Kind → ℕ → Option (List ℕ) → Option (List ℕ) → Type 0
WritesBuiltOf kind bound old new =
    (file : List ℕ) × IsBuiltOf kind bound file × Appends old new file
