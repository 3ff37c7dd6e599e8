-- What the program tells of its end.
use Rattle.std.specs.Prelude.{◌≡◌, ◌⊎◌, ℕ, List, [], ◌∷◌, ◌++◌, Option, Some, None, Result, OnOk, codes}
use Rattle.std.specs.Io.KnownBytes.{Appends}
use Rattle.db_layout.specs.Writes.{AppendsPart}
use Rattle.command_line.specs.Asked.{Asked, about}
use Rattle.bearoff_cli.specs.Faults.{error_line, status_of}
use Rattle.bearoff_cli.specs.Meanings.{meaning_line, shown}
use Rattle.bearoff_cli.specs.declared.fault.Fault.{Fault}
use Rattle.bearoff_cli.specs.declared.fault.Fault.TheVariants.{Open, File, Refused}
use Rattle.bearoff_cli.specs.declared.act.ProgramFault.{ProgramFault}
use Rattle.bearoff_cli.specs.declared.act.ProgramFault.TheVariants.{Words, Failed, Explained}

-- what the system says of a file, where it failed there; else nothing
abbrev pub IsReasonOf : {E : Type 0} → Option E → List ℕ → Type 0
IsReasonOf None text = text ≡ []
IsReasonOf (Some error) text = Unit {0}

-- a refusal has this status, and of what is told of it this holds; of the text for wrong words
-- nothing is said
abbrev pub IsToldBy : ProgramFault → ℕ → (List ℕ → Type 0) → Type 0
IsToldBy (Words error) status Holds = status ≡ 2
IsToldBy (Failed fault) status Holds = (status ≡ status_of fault) × Holds (error_line fault)
IsToldBy (Explained it) status Holds = (status ≡ status_of it.fault)
    × ((reason : List ℕ) × IsReasonOf it.reason reason
    × Holds (error_line it.fault ++ meaning_line (shown it.path.now) it.fault reason))

-- what is told of the fault of a file: its line, and then what it means; of a fault that is not the
-- file's its line alone
abbrev pub ExplainsBy : List ℕ → Fault → List ℕ → Type 0
ExplainsBy path Open text =
    (reason : List ℕ) × (text ≡ error_line Open ++ meaning_line (shown path) Open reason)
ExplainsBy path File text =
    (reason : List ℕ) × (text ≡ error_line File ++ meaning_line (shown path) File reason)
ExplainsBy path (Refused cause) text =
    text ≡ error_line (Refused cause) ++ meaning_line (shown path) (Refused cause) []
ExplainsBy path fault text = text ≡ error_line fault

-- what is told of the fault of a request: its line, which `about` explains
abbrev pub Tells : Asked → Fault → List ℕ → Type 0
Tells (about path) fault text = ExplainsBy path fault text
Tells _ fault text = text ≡ error_line fault

-- what is told of a fault, whatever the words: its line, and behind it more only where `about` is
-- the first of them
abbrev pub MayTell : List (List ℕ) → Fault → List ℕ → Type 0
MayTell words fault text = (text ≡ error_line fault) ⊎ ((rest : List (List ℕ)) × (more : List ℕ)
    × (words ≡ codes "about" ∷ rest) × (text ≡ error_line fault ++ more))

-- a text that may report a fault of this status was written, of which `Line` holds
abbrev pub IsReported : List (List ℕ) → (List ℕ → Type 0) → ℕ → Type 0
IsReported words Line status = (fault : Fault) × (text : List ℕ)
    × ((status ≡ status_of fault) × MayTell words fault text × Line text)

-- a refusal is explained only where `about` is the first word
abbrev pub IsExplainedFor : List (List ℕ) → ProgramFault → Type 0
IsExplainedFor words (Words error) = Unit {0}
IsExplainedFor words (Failed fault) = Unit {0}
IsExplainedFor words (Explained it) = (rest : List (List ℕ)) × (words ≡ codes "about" ∷ rest)

-- a text was written: all of it, where no write failed, and else a prefix
abbrev pub IsWritten : {T E : Type 0} → Result T E → Option (List ℕ) → Option (List ℕ) → List ℕ
    → Type 0
IsWritten written old new text = AppendsPart old new text × OnOk written (Appends old new text)
