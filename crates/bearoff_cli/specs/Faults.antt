-- The faults of the program: their classes, their lines, and what they say of a file.
use Rattle.certificate.specs.declared.check_fault.CheckFault.{CheckFault}
use Rattle.certificate.specs.declared.check_fault.CheckFault.TheVariants.{Read as TableRead}
use Rattle.certificate.specs.declared.upgrade_fault.UpgradeFault.{UpgradeFault}
use Rattle.certificate.specs.declared.upgrade_fault.UpgradeFault.TheVariants.{NotOld as NoOldFile, Read as OldRead}
use Rattle.certificate.specs.declared.upgrade_fault.UpgradeFault.TheVariants.{Write as NewWrite}
use Rattle.retrograde.specs.declared.build_fault.BuildFault.{BuildFault}
use Rattle.retrograde.specs.declared.build_fault.BuildFault.TheVariants.{OverBound as IsOverBound, Memory as NoMemory}
use Rattle.retrograde.specs.declared.build_fault.BuildFault.TheVariants.{Write as FileWrite}
use Rattle.epc_query.specs.declared.run_fault.RunFault.{RunFault}
use Rattle.epc_query.specs.declared.run_fault.RunFault.TheVariants.{Read as InputRead, Write as OutputWrite, Table}
use Rattle.epc_query.specs.declared.run_fault.RunFault.TheVariants.{Memory as NoMemoryLeft, Turns as NoTurns}
use Rattle.bearoff_cli.specs.declared.fault.Fault.{Fault}
use Rattle.bearoff_cli.specs.declared.fault.Fault.TheVariants.{File, Read, Write, Memory, Turns, OverBound, Refused}
use Rattle.bearoff_cli.specs.declared.fault.Fault.TheVariants.{NotOld, Open, Unanswered}
use Rattle.std.specs.Prelude.{ℕ, List, ◌++◌, codes, ◌≡◌, ◌^◌, ◌≤◌, ◌⊎◌, Bool, true, false, IsTrue, if◌then◌else◌}
use Rattle.std.specs.Prelude.{nat_le, [], ◌∷◌, length, Option, Some, None}
use Rattle.certificate.specs.CheckFaults.{line_of}
use Rattle.bearoff_cli.specs.declared.fault.Hint.TheVariants.{Board, Quotes, Query, Position}
use Rattle.std.specs.List.{list_any}
use Rattle.std.specs.Io.KnownBytes.{Consumes}
use Rattle.race_model.specs.Prelude.{compact, version_of, IsRightDatabase}
use Rattle.epc_query.specs.Kinds.{IsFirstAs, IsRightAs, stated_kind}
use Rattle.db_reader.specs.Telling.{WhereTold}
use Rattle.db_layout.specs.declared.stated.Kind.{Kind}
use Rattle.db_layout.specs.declared.stated.Kind.TheVariants.{Database, Board}
use Rattle.command_line.specs.Asked.{Asked, default, build, check, query, ask, show, about, audit, upgrade}
use Rattle.bearoff_cli.specs.Kinds.{greatest, taken_as}
use Rattle.bearoff_cli.specs.Shows.{IsFileShown}
use Rattle.bearoff_cli.specs.declared.files.Unread.{Unread}
use Rattle.bearoff_cli.specs.declared.files.Unread.TheVariants as unread

-- a database is refused for what it holds; where it could not be read, the file failed
abbrev pub of_check : CheckFault → Fault
of_check TableRead = File
of_check cause = Refused cause

-- the refusals of the builder
abbrev pub of_build : BuildFault → Fault
of_build IsOverBound = OverBound
of_build NoMemory = Memory
of_build FileWrite = Write

-- the refusals of an upgrade
abbrev pub of_upgrade : UpgradeFault → Fault
of_upgrade NoOldFile = NotOld
of_upgrade OldRead = File
of_upgrade NewWrite = Write

-- the refusals of `run`: standard input and output, and the file of the table
abbrev pub of_run : RunFault → Fault
of_run InputRead = Read
of_run OutputWrite = Write
of_run Table = File
of_run NoMemoryLeft = Memory
of_run NoTurns = Turns

-- the word of a fault; that of a refused database is followed by the fault of the database
abbrev pub word_of : Fault → List ℕ
word_of Open = codes "open"
word_of File = codes "file"
word_of Read = codes "read"
word_of Write = codes "write"
word_of Memory = codes "memory"
word_of Turns = codes "turns"
word_of OverBound = codes "over-bound"
word_of (Refused fault) = codes "refused " ++ line_of fault
word_of NotOld = codes "not-old"
word_of (Unanswered Board) = codes "unanswered (a board file has all positions)"
word_of (Unanswered Quotes) = codes "unanswered (quote a LINE: 'mean 0,0,0,0,0,1')"
word_of (Unanswered Query) =
    codes "unanswered (queries: play 0,0,0,2,0,0 21, or mean, dist, loss, moves, rank)"
word_of (Unanswered Position) = codes "unanswered (positions: XGID, ID or six counts)"

-- what is written to standard error
abbrev pub error_line : Fault → List ℕ
error_line fault = codes "bearoff: " ++ word_of fault ++ codes "\n"

-- 1 for what failed outside the database, and for lines of which none was answered, 2 for a bound
-- that is too large, 3 for a database that was refused, or that is no old one
abbrev pub status_of : Fault → ℕ
status_of OverBound = 2
status_of (Refused fault) = 3
status_of NotOld = 3
status_of _ = 1

-- the file is a right database of version 2
abbrev pub IsNotOld : Kind → List ℕ → Type 0
IsNotOld Database f = IsRightDatabase f × (version_of f ≡ compact)
IsNotOld Board f = ⊥

-- what a fault says of a file: a refused one has this first fault, and one that is no old one is
-- right and of version 2
abbrev pub IsFaultIn : Kind → List ℕ → Fault → Type 0
IsFaultIn kind file OverBound = ⊥
IsFaultIn kind file (Refused cause) = IsFirstAs kind file cause
IsFaultIn kind file NotOld = IsNotOld kind file
IsFaultIn kind file _ = Unit {0}

-- what a fault says of a file that is asked for: a refused one is no right file of the kind as
-- which it is taken, and has this first fault of the kind that is asked for
abbrev pub IsFaultAsked : Kind → List ℕ → Fault → Type 0
IsFaultAsked asked file (Refused cause) =
    IsFirstAs asked file cause × ¬ IsRightAs (taken_as asked file) file
IsFaultAsked asked file fault = IsFaultIn asked file fault

-- what failed is no file that is refused, or the fault says this of a file that was read
abbrev pub IsOf : (List ℕ → Type 0) → (List ℕ → Fault → Type 0) → Fault → Type 0
IsOf From Says fault = (status_of fault ≡ 1) ⊎ ((file : List ℕ) × From file × Says file fault)

-- what the fault of a request says of the file that it reads. Which fault a refused database has is
-- not said of the answers by pages
abbrev pub IsFaultOf : (List ℕ → List ℕ → Type 0) → Asked → Fault → Type 0
IsFaultOf From (check kind path) = IsOf (From path) (IsFaultAsked kind)
IsFaultOf From (query kind path None) = IsOf (From path) (IsFaultAsked kind)
IsFaultOf From (ask path lines) = IsOf (From path) (λ file. IsFaultIn (stated_kind file) file)
IsFaultOf From (about path) = IsOf (From path) (λ file. IsFaultIn (stated_kind file) file)
IsFaultOf From (audit kind path) = IsOf (From path) (IsFaultAsked kind)
IsFaultOf From (upgrade old new) = IsOf (From old) (IsFaultIn Database)
IsFaultOf From (show is_json texts) =
    IsOf (IsFileShown From texts) (λ file. IsFaultIn (stated_kind file) file)
IsFaultOf From _ = λ fault. Unit {0}

-- the fault of a file that was not read
abbrev pub of_unread : Unread → Fault
of_unread unread.Memory = Memory
of_unread (unread.Open error) = Open
of_unread (unread.Read error) = File

-- what failed, or what a command found wrong with its request
pub data Class : Type 0 where
  opening : Class
  reading : Class
  stdin : Class
  writing : Class
  memory : Class
  bound : Class
  refusal : Class
  current : Class
  unanswered : Class

-- whether a fault is of a class
abbrev pub is_of : Fault → Class → Bool
is_of Open opening = true
is_of File reading = true
is_of Read stdin = true
is_of Turns stdin = true
is_of Write writing = true
is_of Memory memory = true
is_of OverBound bound = true
is_of (Refused cause) refusal = true
is_of NotOld current = true
is_of (Unanswered hint) unanswered = true
is_of _ _ = false

-- a fault is of one of these classes
abbrev pub IsAmong : List Class → Fault → Type 0
IsAmong classes fault = IsTrue (list_any (is_of fault) classes)

-- how a command that writes a file, and reads none, can fail
abbrev pub build_faults : List Class
build_faults = opening ∷ writing ∷ memory ∷ []

-- how the reading of a whole file can fail
abbrev pub read_faults : List Class
read_faults = opening ∷ reading ∷ memory ∷ []

-- how a command that checks a file can fail
abbrev pub check_faults : List Class
check_faults = writing ∷ refusal ∷ read_faults

-- how an upgrade can fail
abbrev pub upgrade_faults : List Class
upgrade_faults = current ∷ check_faults

-- how answers to an input can fail, over a file that was accepted
abbrev pub answer_faults : List Class
answer_faults = stdin ∷ reading ∷ writing ∷ memory ∷ []

-- how answers to an input can fail, over a file that has to be opened and checked
abbrev pub query_faults : List Class
query_faults = opening ∷ refusal ∷ answer_faults

-- how answers to arguments can fail
abbrev pub ask_faults : List Class
ask_faults = unanswered ∷ query_faults

-- how a request can fail
abbrev pub faults_of : Asked → List Class
faults_of default = answer_faults
faults_of (build kind pips path) =
    if nat_le pips (greatest kind) then build_faults else bound ∷ memory ∷ []
faults_of (query kind path records) = query_faults
faults_of (ask path lines) = ask_faults
faults_of (show is_json texts) = ask_faults
faults_of (upgrade before after) = upgrade_faults
faults_of _ = check_faults

-- 2 ^ 40 bytes of an input were read at least, where the fault is that it didn't end within as many
-- reads: each of them gave a byte
abbrev pub UsesTurns : Option (List ℕ) → Option (List ℕ) → Fault → Type 0
UsesTurns input left Turns = WhereTold input (λ given. (done : List ℕ)
    × Consumes (Some given) left done × (2 ^ 40 ≤ length done))
UsesTurns input left _ = Unit {0}
