-- What a request leaves of the disk, the input and the output, however it ends.
use Rattle.std.specs.Prelude.{ℕ, List, Option, None, ◌≡◌, suc, ◌≤◌, ◌⊎◌, [], ◌∷◌, ◌++◌, Some, ◌<◌, Result, Ok, Err}
use Rattle.std.specs.Prelude.{true, IfErr, OnOk}
use Rattle.whole_file.specs.Disks.{Moment}
use Rattle.whole_file.specs.Paths.{Paths, untold_paths}
use Rattle.whole_file.specs.declared.disk.Disk.{Ghosts}
use Rattle.race_model.specs.Prelude.{IsBuilt, bound_of, count_to}
use Rattle.db_layout.specs.Writes.{AppendsPart}
use Rattle.db_reader.specs.Telling.{WhereTold}
use Rattle.retrograde.specs.UsualVersion.{usual_version}
use Rattle.db_layout.specs.declared.stated.Kind.{Kind}
use Rattle.db_layout.specs.declared.stated.Kind.TheVariants.{Database}
use Rattle.epc_query.specs.Runs.{IsRunStopped}
use Rattle.epc_query.specs.declared.run_fault.RunFault.{RunFault}
use Rattle.command_line.specs.Asked.{Asked, default, build, check, query, ask, show, about, audit, upgrade}
use Rattle.bearoff_cli.specs.Faults.{of_run, IsAmong, IsFaultOf, UsesTurns, faults_of, query_faults, writing, memory}
use Rattle.bearoff_cli.specs.Faults.{status_of}
use Rattle.bearoff_cli.specs.Shows.{LeavesLines, ShowsLines, ShowsTexts}
use Rattle.bearoff_cli.specs.declared.fault.Fault.{Fault}
use Rattle.bearoff_cli.specs.declared.fault.Fault.TheVariants.{Open, File, Memory, Refused, Unanswered}
use Rattle.bearoff_cli.specs.declared.fault.Hint.{Hint}
use Rattle.bearoff_cli.specs.FileAnswers.{AnswersWords, AreLevelLines, IsLevelLineAs, IsUpgradedLine, about_file}
use Rattle.bearoff_cli.specs.FileAnswers.{bound_line, count_line, AreAnsweredOver, AreAnsweredFrom, IsHandedTo}
use Rattle.bearoff_cli.specs.FileAnswers.{IsReadFrom, AreAllLevels, Says}
use Rattle.epc_query.specs.Kinds.{IsRightAs, book_as}
use Rattle.bearoff_cli.specs.Kinds.{asked_as, kind_as, WritesBuiltOf, greatest}
use Rattle.bearoff_cli.specs.declared.act.Done.TheVariants.{Built, Checked}
use Rattle.bearoff_cli.specs.declared.act.ProgramFault.{ProgramFault}
use Rattle.bearoff_cli.specs.declared.act.ProgramFault.TheVariants.{Words, Failed, Explained}
use Rattle.std.specs.declared.alloc.Global.{Global}
use Rattle.std.specs.Io.Buffered.{writer_contents}
use Rattle.std.specs.Io.KnownBytes.{Appends}
use Rattle.certificate.specs.Upgrades.{WritesUpgrade}
use Rattle.bearoff_cli.specs.PutFiles.{LeavesBy, LeavesFor, LeavesInput, PutsFor}
use Rattle.bearoff_cli.specs.Tellings.{IsExplainedFor, Tells}
use Rattle.bearoff_cli.specs.declared.act.Report.{Report}
use Rattle.bearoff_cli.specs.declared.act.Report.TheVariants.{Count, Levels}

-- a disk, an input and an output at one moment
pub record World : Type 1 where
  -- how the disk reads paths
  pub paths : Paths
  -- the moments of the disk so far, where it reports them
  pub moments : Option (List Moment)
  -- the last file that was to be removed has stayed
  pub kept : Type 0
  -- what is left of the input, where the reader reports it
  pub input : Option (List ℕ)
  -- what was written to the output, where the writer reports it
  pub output : Option (List ℕ)

-- the world of a disk, of what is left of an input, and of what was written to an output
abbrev pub world : {D F R : Type 0} → Ghosts D F R → D → Option (List ℕ) → Option (List ℕ) → World
world g disk input output = record {
  paths = g.paths disk;
  moments = g.told disk;
  kept = g.kept disk;
  input = input;
  output = output;
}

-- the world over a disk that reports nothing, as that of a system
abbrev pub unobserved : Option (List ℕ) → Option (List ℕ) → World
unobserved input output =
    record { paths = untold_paths; moments = None; kept = Unit {0}; input = input; output = output }

-- the replies to the lines of an input, over a right file, stopped so: what was written is what
-- `run` says of the fault's cause
pub record AreStopped (kind : Kind) (file given : List ℕ) (left old new : Option (List ℕ))
    (fault : Fault) : Type 0 where
  pub right : IsRightAs kind file
  pub cause : RunFault
  pub fault_is : fault ≡ of_run cause
  pub stopped : IsRunStopped (book_as kind file) given left old new cause

-- a prefix of the line of a pip count of a file was written
pub record WritesLevelPart (kind : Kind) (file : List ℕ) (p : ℕ)
    (old new : Option (List ℕ)) : Type 0 where
  pub line : List ℕ
  pub is : IsLevelLineAs kind file p line
  pub written : AppendsPart old new (line ++ 10 ∷ [])

-- a prefix of the lines of the first so many pip counts of a file was written
pub record WritesLevelsPart (kind : Kind) (file : List ℕ) (old new : Option (List ℕ)) : Type 0 where
  pub count : ℕ
  pub within : count ≤ suc (bound_of file)
  pub lines : List ℕ
  pub levels : AreLevelLines kind file count lines
  pub written : AppendsPart old new lines

-- nothing was written, or this was, of a right file of this kind that was read from some opened one
abbrev pub IsNothingOr : Option Kind → (List ℕ → Type 0)
    → (List ℕ → Type 0) → Option (List ℕ) → Option (List ℕ) → Type 0
IsNothingOr kind From Says old new = (new ≡ old)
    ⊎ ((file : List ℕ) × From file × IsRightAs (kind_as kind file) file × Says file)

-- what was written of the lines of an input over an opened file of this kind
abbrev pub LeavesReplies : Option Kind → (List ℕ → Type 0)
    → Option (List ℕ) → Option (List ℕ) → Option (List ℕ) → Option (List ℕ) → Fault → Type 0
LeavesReplies kind From input left old new fault = WhereTold input (λ given.
    IsNothingOr kind From (λ file. AreStopped (kind_as kind file) file given left old new fault)
    old new)

-- what was written of the lines of an input that are words: all replies where none is answered,
-- and else as of an input
abbrev pub LeavesWords : (List ℕ → Type 0) → List ℕ → Option (List ℕ) → Option (List ℕ) → Fault
    → Type 0
LeavesWords From lines old new fault =
    ((hint : Hint) × (fault ≡ Unanswered hint) × AnswersWords (Some hint) From lines old new)
    ⊎ (IsAmong query_faults fault × ((rest : Option (List ℕ)) × UsesTurns (Some lines) rest fault
    × LeavesReplies None From (Some lines) rest old new fault))

-- what was written of a text of a right file
abbrev pub LeavesText : Option Kind → (List ℕ → Type 0) → (List ℕ → List ℕ → Type 0)
    → Option (List ℕ) → Option (List ℕ) → Type 0
LeavesText kind From IsText old new = IsNothingOr kind From
    (λ file. (text : List ℕ) × IsText file text × AppendsPart old new text) old new

-- what was written of the lines of the pip counts of a file
abbrev pub LeavesLevels : Option Kind → (List ℕ → Type 0)
    → Option (List ℕ) → Option (List ℕ) → Type 0
LeavesLevels kind From old new =
    IsNothingOr kind From (λ file. WritesLevelsPart (kind_as kind file) file old new) old new

-- what was written for a request where the program ended with this fault. Of answers by pages
-- nothing is said. Where lines are arguments the input is left alone
abbrev pub Leaves : (List ℕ → List ℕ → Type 0) → Asked → World → World → Fault → Type 0
Leaves From default before after fault = WhereTold before.input (λ given.
    (after.output ≡ before.output) ⊎ ((file : List ℕ) × IsBuilt (usual_version 8) 8 file
    × AreStopped Database file given after.input before.output after.output fault))
Leaves From (build kind pips path) before after fault =
    AppendsPart before.output after.output (count_line Built pips (count_to pips))
Leaves From (check kind path) before after fault = LeavesText (asked_as kind) (From path)
    (λ file text. text ≡ bound_line Checked file) before.output after.output
Leaves From (query kind path None) before after fault = LeavesReplies (asked_as kind) (From path)
    before.input after.input before.output after.output fault
Leaves From (ask path lines) before after fault = (after.input ≡ before.input)
    × LeavesWords (From path) lines before.output after.output fault
Leaves From (show is_json texts) before after fault = (after.output ≡ before.output)
    ⊎ ShowsTexts (LeavesLines before.output after.output fault) From is_json texts
    before.input after.input
Leaves From (about path) before after fault = LeavesText None (From path)
    (λ file text. text ≡ about_file file) before.output after.output
Leaves From (audit kind path) before after fault =
    LeavesLevels (asked_as kind) (From path) before.output after.output
Leaves From (upgrade old new) before after fault =
    LeavesText (Some Database) (From old) IsUpgradedLine before.output after.output
Leaves From _ before after fault = Unit {0}

-- how much was read of the input where the reads ran out. `Leaves` says so of lines that are
-- arguments
abbrev pub RunsOut : Asked → World → World → Fault → Type 0
RunsOut (ask path lines) before after fault = Unit {0}
RunsOut (show is_json texts) before after fault = Unit {0}
RunsOut _ before after fault = UsesTurns before.input after.input fault

-- a request ended so: with a fault that it can end with, which comes where it is said to, and with
-- what was read and written by then
pub record IsEndOf (From : List ℕ → List ℕ → Type 0) (asked : Asked) (before after : World)
    (fault : Fault) : Type 0 where
  pub can : IsAmong (faults_of asked) fault
  pub of_file : IsFaultOf From asked fault
  pub turns : RunsOut asked before after fault
  pub leaves : Leaves From asked before after fault

-- a fault is that of a file, of which the system says something only where it failed
abbrev pub IsOfFile : {E : Type 0} → Fault → Option E → Type 0
IsOfFile Open reason = Unit {0}
IsOfFile File reason = Unit {0}
IsOfFile (Refused cause) reason = reason ≡ None
IsOfFile _ reason = ⊥

-- a fault is not explained: `about` explains those of its file
abbrev pub IsBare : Asked → Fault → Type 0
IsBare (about path) = IsAmong (writing ∷ memory ∷ [])
IsBare _ = λ fault. Unit {0}

-- a file that was not read ends `about` so
abbrev pub IsUnreadEnd : List ℕ → ProgramFault → Type 0
IsUnreadEnd path (Words error) = ⊥
IsUnreadEnd path (Failed fault) = fault ≡ Memory
IsUnreadEnd path (Explained it) = (it.path.now ≡ path) × ((it.fault ≡ Open) ⊎ (it.fault ≡ File))

-- a request ended so with a refusal, which is not that of invalid arguments
abbrev pub IsRefusalOf : (List ℕ → List ℕ → Type 0) → Asked → World → World → ProgramFault
    → Type 0
IsRefusalOf From asked before after (Words error) = ⊥
IsRefusalOf From asked before after (Failed fault) =
    IsBare asked fault × IsEndOf From asked before after fault
IsRefusalOf From asked before after (Explained it) = (asked ≡ about it.path.now)
    × IsOfFile it.fault it.reason × IsEndOf From asked before after it.fault

-- what was read of the input and of an opened file and written to the output, where the request was
-- fulfilled. Nothing is said of answers by pages, as no contract of the library says what a seek
-- and a read give together. Where lines are arguments the input is left alone
abbrev pub IsDone : {W : Type 0} → (List ℕ → List ℕ → Type 0) → (W → Option (List ℕ)) → Asked
    → World → World → Type 0
IsDone From contents default before after = WhereTold before.input
    (λ given. AreAnsweredOver 8 given after.input before.output after.output)
IsDone From contents (build kind pips path) before after =
    (pips ≤ greatest kind) × IsHandedTo contents (WritesBuiltOf kind pips)
    × Appends before.output after.output (count_line Built pips (count_to pips))
IsDone From contents (check kind path) before after = Says (asked_as kind) (From path)
    (λ file text. text ≡ bound_line Checked file) before.output after.output
IsDone From contents (query kind path None) before after = WhereTold before.input (λ given.
    AreAnsweredFrom (asked_as kind) (From path) given after.input before.output after.output)
IsDone From contents (ask path lines) before after = (after.input ≡ before.input)
    × AnswersWords None (From path) lines before.output after.output
IsDone From contents (show is_json texts) before after =
    ShowsTexts (ShowsLines true before.output after.output) From is_json texts
    before.input after.input
IsDone From contents (about path) before after =
    Says None (From path) (λ file text. text ≡ about_file file) before.output after.output
IsDone From contents (audit kind path) before after = Says (asked_as kind) (From path)
    (AreAllLevels (asked_as kind)) before.output after.output
IsDone From contents (upgrade old new) before after = Says (Some Database) (From old)
    (λ file text. IsUpgradedLine file text × IsHandedTo contents (WritesUpgrade file))
    before.output after.output
IsDone From contents _ before after = Unit {0}

-- the result of a command that explains no fault
abbrev pub as_failed : {T : Type 0} → Result T Fault → Result T ProgramFault
as_failed (Ok done) = Ok done
as_failed (Err fault) = Err (Failed fault)

-- the request whose command reports this of a file
abbrev pub report_of : Report → Kind → List ℕ → Asked
report_of Count kind path = check kind path
report_of Levels kind path = audit kind path

-- the exit status of a refusal
abbrev pub refusal_status : ProgramFault → ℕ
refusal_status (Words error) = 2
refusal_status (Failed fault) = status_of fault
refusal_status (Explained it) = status_of it.fault

-- what invalid arguments, a refused file and a bound over the greatest leave as they were
abbrev pub Keeps : World → World → ProgramFault → Type 0
Keeps before after refusal = 1 < refusal_status refusal
    → (after.output ≡ before.output) × (after.moments ≡ before.moments)

-- a request ended with this result: it was fulfilled or refused
pub record Ends {F W T : Type 0} (remaining : F → Option (List ℕ))
    (contents : W → Option (List ℕ)) (asked : Asked) (before after : World)
    (result : Result T ProgramFault) : Type 0 where
  -- a fault is one of the request, comes from what was read, and leaves a part of the output
  pub fault : IfErr result
      (IsRefusalOf (IsReadFrom remaining before.paths before.moments) asked before after)
  -- the output of a request that was fulfilled is complete and right
  pub done : OnOk result (IsDone (IsReadFrom remaining before.paths before.moments)
      (writer_contents {A = Global} contents) asked before after)
  -- a file that it writes is then where its path leads
  pub put : OnOk result (PutsFor remaining before.paths asked before.moments after.moments)
  -- a refusal of status 2 or 3 changes neither the output nor the disk
  pub keeps : IfErr result (Keeps before after)
  -- however it ends, the disk has the old file or the whole new one
  pub leaves : LeavesFor remaining before.paths asked before.moments after.moments after.kept
  -- a request that answers no lines of the input reads none of it
  pub unread : LeavesInput asked before.input after.input

-- whatever the arguments are, the program ended so: a refusal changes neither the output nor the
-- disk, a fault is explained only for `about`, and arguments without a request change nothing
pub record EndsAny {F T : Type 0} (remaining : F → Option (List ℕ)) (words : List (List ℕ))
    (before after : World) (result : Result T ProgramFault) : Type 0 where
  pub keeps : IfErr result (Keeps before after)
  pub explained : IfErr result (IsExplainedFor words)
  pub other : LeavesBy remaining before.paths words before.moments after.moments after.kept
      before.input after.input

-- a request ended with this status, where `Line` holds of what was written of its fault
pub record EndsBy {F W : Type 0} (remaining : F → Option (List ℕ))
    (contents : W → Option (List ℕ)) (Line : List ℕ → Type 0) (status : ℕ) (asked : Asked)
    (before after : World) : Type 0 where
  -- at another status than 0 the text of a fault of this status was written
  pub fault : 0 < status → (fault : Fault) × (text : List ℕ) × ((status ≡ status_of fault)
      × Tells asked fault text × Line text
      × IsEndOf (IsReadFrom remaining before.paths before.moments) asked before after fault)
  -- at status 0 the output is complete and right
  pub done : status ≡ 0 → IsDone (IsReadFrom remaining before.paths before.moments)
      (writer_contents {A = Global} contents) asked before after
  -- a request that answers no lines of the input reads none of it
  pub unread : LeavesInput asked before.input after.input
