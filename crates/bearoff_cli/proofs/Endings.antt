-- How a request ends, from how its command failed and what it did before.
use Rattle.std.proofs.Common.{◌≡◌, ◌<◌, ◌⊎◌, inl, inr, ap, ℕ, List, Option, Some, None, Result, Ok, Err, IfErr, refl}
use Rattle.std.proofs.Common.{subst, sym, Global, arith, ◌≤◌, OnErr, OnOk, [], ◌∷◌, false}
use Rattle.std.specs.List.{list_any}
use Rattle.std.specs.Io.Buffered.{writer_contents}
use Rattle.std.proofs.lemmas.Bool.{false≢true, le-leb, lt-leb}
use Rattle.db_layout.specs.Writes.{AppendsPart}
use Rattle.db_layout.proofs.Known.{appends_none}
use Rattle.race_model.specs.Prelude.{count_to}
use Rattle.certificate.specs.declared.check_fault.CheckFault.{CheckFault}
use Rattle.certificate.specs.declared.check_fault.CheckFault.TheVariants.{Read as TableRead}
use Rattle.command_line.specs.Asked.{Asked, IsAskedBy, default, build, check, query, ask, show, about, audit, upgrade}
use Rattle.bearoff_cli.specs.Faults.{is_of, ask_faults, current, refusal, IsFaultAsked, IsOf, of_check, status_of}
use Rattle.bearoff_cli.specs.Faults.{Class, IsAmong, IsFaultOf, check_faults, faults_of, query_faults, answer_faults}
use Rattle.bearoff_cli.specs.Faults.{build_faults, read_faults, upgrade_faults, writing}
use Rattle.bearoff_cli.specs.declared.fault.Fault.{Fault}
use Rattle.bearoff_cli.specs.declared.fault.Fault.TheVariants.{Open, File, Read, Write, Memory, Turns, OverBound}
use Rattle.bearoff_cli.specs.declared.fault.Fault.TheVariants.{Refused, NotOld}
use Rattle.db_layout.specs.declared.stated.Kind.{Kind}
use Rattle.bearoff_cli.specs.declared.act.Report.{Report}
use Rattle.bearoff_cli.specs.declared.act.Report.TheVariants.{Count, Levels}
use Rattle.bearoff_cli.specs.FileAnswers.{IsReadFrom, count_line}
use Rattle.bearoff_cli.specs.Kinds.{greatest}
use Rattle.bearoff_cli.specs.PutFiles.{LeavesFor, LeavesInput, PutsFor}
use Rattle.bearoff_cli.specs.Requests.{Keeps, LeavesWords, Ends, IsDone, as_failed, report_of, IsBare, IsEndOf}
use Rattle.bearoff_cli.specs.Requests.{IsOfFile, IsRefusalOf, IsUnreadEnd, Leaves, RunsOut, World}
use Rattle.bearoff_cli.specs.Tellings.{IsExplainedFor}
use Rattle.bearoff_cli.specs.declared.act.Done.TheVariants.{Built}
use Rattle.bearoff_cli.specs.declared.act.ProgramFault.{ProgramFault}
use Rattle.bearoff_cli.specs.declared.act.ProgramFault.TheVariants.{Words, Failed, Explained}
use Rattle.bearoff_cli.proofs.KeptFiles.{input_same, leaves_same}
use Rattle.bearoff_cli.proofs.ToldFaults.{among_more, memory_can, none_ran}

-- the first fault that a check found is that of the file, of which the system says nothing
pub check_of_file : (E : Type 0) (cause : CheckFault) → IsOfFile {E = E} (of_check cause) None
check_of_file E TableRead = tt
check_of_file E _ = refl

-- a fault is explained only for `about`, which is then the first word
pub explained_for : {A : Type 0} (From : List ℕ → List ℕ → Type 0) (asked : Asked)
    (words : List (List ℕ)) (before after : World) (r : Result A ProgramFault)
    → IsAskedBy words asked → IfErr r (IsRefusalOf From asked before after)
    → IfErr r (IsExplainedFor words)
explained_for From asked words before after (Err (Explained it)) by ended =
    let is = subst (λ a. IsAskedBy words a) ended.0 by in (is.0, is.1)
explained_for From asked words before after (Err (Words e)) by ended = tt
explained_for From asked words before after (Err (Failed e)) by ended = tt
explained_for From asked words before after (Ok x) by ended = tt

-- ---- the classes of the faults of each part

-- what may fail with nothing written to the output
abbrev pub quiet_faults : List Class
quiet_faults = refusal ∷ current ∷ writing ∷ read_faults

-- such a fault of lines that are arguments is one of answers
quiet_query : (fault : Fault) → IsAmong quiet_faults fault → IsAmong ask_faults fault
    → IsAmong query_faults fault
quiet_query NotOld is can = absurd (false≢true can)
quiet_query Open is can = refl
quiet_query File is can = refl
quiet_query Write is can = refl
quiet_query Memory is can = refl
quiet_query (Refused cause) is can = refl
quiet_query _ is can = absurd (false≢true is)

-- a file that can't be read
pub read_quiet : (fault : Fault) → IsAmong read_faults fault
    → IsAmong quiet_faults fault × IsAmong query_faults fault × (status_of fault ≡ 1)
read_quiet Open is = (refl, refl, refl)
read_quiet File is = (refl, refl, refl)
read_quiet Memory is = (refl, refl, refl)
read_quiet _ is = absurd (false≢true is)

-- a file that the check refuses
pub check_quiet : (cause : CheckFault) → IsAmong quiet_faults (of_check cause)
    × IsAmong check_faults (of_check cause) × IsAmong ask_faults (of_check cause)
check_quiet TableRead = (refl, refl, refl)
check_quiet _ = (refl, refl, refl)

-- an upgrade
pub upgrade_quiet : (fault : Fault) → IsAmong upgrade_faults fault → IsAmong quiet_faults fault
upgrade_quiet Open is = refl
upgrade_quiet File is = refl
upgrade_quiet Write is = refl
upgrade_quiet Memory is = refl
upgrade_quiet (Refused cause) is = refl
upgrade_quiet NotOld is = refl
upgrade_quiet _ is = absurd (false≢true is)

-- a build
pub build_quiet : (fault : Fault) → IsAmong build_faults fault
    → IsAmong quiet_faults fault × (status_of fault ≡ 1)
build_quiet Open is = (refl, refl)
build_quiet Write is = (refl, refl)
build_quiet Memory is = (refl, refl)
build_quiet _ is = absurd (false≢true is)

-- answers over an accepted file
pub answer_status : (fault : Fault) → IsAmong answer_faults fault → status_of fault ≡ 1
answer_status File is = refl
answer_status Read is = refl
answer_status Write is = refl
answer_status Memory is = refl
answer_status Turns is = refl
answer_status _ is = absurd (false≢true is)

-- a bound over the greatest may be reported as that
pub over_can : (kind : Kind) (pips : ℕ) (path : List ℕ) → greatest kind < pips
    → IsAmong (faults_of (build kind pips path)) OverBound
over_can kind pips path over = rw (lt-leb pips (greatest kind) over) refl

-- a build of another bound fails as it may
pub within_can : (kind : Kind) (pips : ℕ) (path : List ℕ) (fault : Fault) → pips ≤ greatest kind
    → IsAmong build_faults fault → IsAmong (faults_of (build kind pips path)) fault
within_can kind pips path fault low is = rw (le-leb pips (greatest kind) low) is

-- ---- what follows from the status of a fault

-- a fault of status 1 says nothing of a file
pub of_no_file : (From : List ℕ → List ℕ → Type 0) (asked : Asked) (fault : Fault)
    → status_of fault ≡ 1 → IsFaultOf From asked fault
of_no_file From default fault one = tt
of_no_file From (build kind pips path) fault one = tt
of_no_file From (query kind path (Some records)) fault one = tt
of_no_file From (query kind path None) fault one = inl one
of_no_file From (show is_json texts) fault one = inl one
of_no_file From _ fault one = inl one

-- at such a fault nothing has to stay as it was
pub no_keeps : {P : Type 0} (fault : Fault) → status_of fault ≡ 1 → 1 < status_of fault → P
no_keeps fault one more = absurd (omega (arith, one, more))

-- nothing has to stay at the faults of answers
pub answers_keep : {T : Type 0} (P : Type 0) (r : Result T Fault) → IfErr r (IsAmong answer_faults)
    → IfErr r (λ fault. 1 < status_of fault → P)
answers_keep P (Ok x) is = tt
answers_keep P (Err fault) is = no_keeps fault (answer_status fault is)

-- the output stays at some faults, and the disk at all
pub keeps_both : {T : Type 0} (A B : Type 0) (r : Result T Fault)
    → IfErr r (λ fault. 1 < status_of fault → A) → B
    → IfErr r (λ fault. 1 < status_of fault → A × B)
keeps_both A B (Ok x) keeps stays = tt
keeps_both A B (Err e) keeps stays = λ high. (keeps high, stays)

-- what holds of each fault holds at Err
pub on_err : {T : Type 0} (P : Fault → Type 0) (r : Result T Fault) → ((fault : Fault) → P fault)
    → IfErr r P
on_err P (Ok x) each = tt
on_err P (Err e) each = each e

-- ---- the end of a request at a fault

module _ (From : List ℕ → List ℕ → Type 0) (before after : World) where
  -- nothing was written by then
  nothing_written : (asked : Asked) (fault : Fault) → IsAmong quiet_faults fault
      → IsAmong (faults_of asked) fault → after.input ≡ before.input
      → after.output ≡ before.output → Leaves From asked before after fault
  nothing_written default fault is can read same = λ given told. inl same
  nothing_written (build kind pips path) fault is can read same =
      subst (λ out. AppendsPart before.output out (count_line Built pips (count_to pips)))
      (sym same) (0, appends_none before.output)
  nothing_written (query kind path None) fault is can read same = λ given told. inl same
  nothing_written (query kind path (Some records)) fault is can read same = tt
  nothing_written (ask path lines) fault is can read same = (
    read,
    inr (
      quiet_query fault is can,
      (
        Some lines,
        none_ran quiet_faults refl (Some lines) (Some lines) fault is,
        λ given told. inl same,
      ),
    ),
  )
  nothing_written (show is_json texts) fault is can read same = inl same
  nothing_written (check kind path) fault is can read same = inl same
  nothing_written (about path) fault is can read same = inl same
  nothing_written (audit kind path) fault is can read same = inl same
  nothing_written (upgrade old new) fault is can read same = inl same

  -- no read ran out at a fault of these classes
  pub no_read_ran : (classes : List Class) → list_any (is_of Turns) classes ≡ false
      → (asked : Asked) (fault : Fault) → IsAmong classes fault → RunsOut asked before after fault
  no_read_ran classes never (ask path lines) fault is = tt
  no_read_ran classes never (show is_json texts) fault is = tt
  no_read_ran classes never _ fault is = none_ran classes never _ _ fault is

  -- such a fault is an end of the request
  pub quiet_end : (asked : Asked) (fault : Fault) → IsAmong quiet_faults fault
      → IsAmong (faults_of asked) fault → IsFaultOf From asked fault
      → after.input ≡ before.input → after.output ≡ before.output
      → IsEndOf From asked before after fault
  quiet_end asked fault is can of read same = record {
    can = can;
    of_file = of;
    turns = no_read_ran quiet_faults refl asked fault is;
    leaves = nothing_written asked fault is can read same;
  }

  -- how a command failed is an end of its request
  pub ends_at : {T : Type 0} (asked : Asked) (r : Result T Fault)
      → IfErr r (IsAmong (faults_of asked)) → IfErr r (IsFaultOf From asked)
      → IfErr r (RunsOut asked before after) → IfErr r (Leaves From asked before after)
      → IfErr r (IsEndOf From asked before after)
  ends_at asked (Ok x) can of_file turns leaves = tt
  ends_at asked (Err e) can of_file turns leaves =
      record { can = can; of_file = of_file; turns = turns; leaves = leaves }

-- ---- how a request ends, by how its command did

module _ {F W T : Type 0} (remaining : F → Option (List ℕ)) (contents : W → Option (List ℕ))
    (asked : Asked) (before after : World) where
  -- a request that is refused ends with this
  pub ends_failed : (why : ProgramFault)
      → IsRefusalOf (IsReadFrom remaining before.paths before.moments) asked before after why
      → Keeps before after why
      → LeavesFor remaining before.paths asked before.moments after.moments after.kept
      → LeavesInput asked before.input after.input
      → Ends {T = T} remaining contents asked before after (Err why)
  ends_failed why fault keeps leaves unread =
      record { fault = fault; done = tt; put = tt; keeps = keeps; leaves = leaves; unread = unread }

  -- what a command did, and how it failed, is how its request ended
  pub ends_so : (r : Result T Fault) → ((fault : Fault) → IsBare asked fault)
      → IfErr r (IsEndOf (IsReadFrom remaining before.paths before.moments) asked before after)
      → OnOk r (IsDone (IsReadFrom remaining before.paths before.moments)
      (writer_contents {A = Global} contents) asked before after)
      → OnOk r (PutsFor remaining before.paths asked before.moments after.moments)
      → IfErr r (λ fault. 1 < status_of fault
      → (after.output ≡ before.output) × (after.moments ≡ before.moments))
      → LeavesFor remaining before.paths asked before.moments after.moments after.kept
      → LeavesInput asked before.input after.input
      → Ends remaining contents asked before after (as_failed r)
  ends_so (Ok x) bare fault done put keeps leaves unread =
      record { fault = tt; done = done; put = put; keeps = tt; leaves = leaves; unread = unread }
  ends_so (Err e) bare fault done put keeps leaves unread =
      ends_failed (Failed e) (bare e, fault) keeps leaves unread

  -- a command that writes to the output at last ends so
  pub ends_written : (r : Result T Fault) → IsBare asked Write → IsAmong (faults_of asked) Write
      → IfErr r (λ fault. fault ≡ Write)
      → OnErr r (Leaves (IsReadFrom remaining before.paths before.moments) asked before after Write)
      → OnOk r (IsDone (IsReadFrom remaining before.paths before.moments)
      (writer_contents {A = Global} contents) asked before after)
      → OnOk r (PutsFor remaining before.paths asked before.moments after.moments)
      → LeavesFor remaining before.paths asked before.moments after.moments after.kept
      → LeavesInput asked before.input after.input
      → Ends remaining contents asked before after (as_failed r)
  ends_written (Ok x) bare can cause part done put leaves unread =
      record { fault = tt; done = done; put = put; keeps = tt; leaves = leaves; unread = unread }
  ends_written (Err e) bare can cause part done put leaves unread =
      let end : IsEndOf (IsReadFrom remaining before.paths before.moments) asked before after
      Write = record {
        can = can;
        of_file = of_no_file _ asked Write refl;
        turns = no_read_ran (IsReadFrom remaining before.paths before.moments) before after
            quiet_faults refl asked Write refl;
        leaves = part;
      } in
      rw cause (ends_failed (Failed Write) (bare, end) (no_keeps Write refl) leaves unread)

  -- a request that fails quietly, at status 1, ends with the fault
  pub fails_early : (fault : Fault) → IsBare asked fault → IsAmong quiet_faults fault
      → IsAmong (faults_of asked) fault → status_of fault ≡ 1
      → LeavesFor remaining before.paths asked before.moments after.moments after.kept
      → after.input ≡ before.input → after.output ≡ before.output
      → Ends {T = T} remaining contents asked before after (Err (Failed fault))
  fails_early fault bare is can one leaves read same = ends_failed (Failed fault)
      (bare, quiet_end _ before after asked fault is can (of_no_file _ asked fault one) read same)
      (no_keeps fault one) leaves (subst (λ left. LeavesInput asked before.input left) (sym read)
      (input_same asked before.input))

  -- a request that fails quietly, with nothing done to the disk, ends with the fault
  pub fails_quietly : (fault : Fault) → IsBare asked fault → IsAmong quiet_faults fault
      → IsAmong (faults_of asked) fault
      → IsFaultOf (IsReadFrom remaining before.paths before.moments) asked fault
      → after.moments ≡ before.moments → after.input ≡ before.input → after.output ≡ before.output
      → Ends {T = T} remaining contents asked before after (Err (Failed fault))
  fails_quietly fault bare is can of stays read same = ends_failed (Failed fault)
      (bare, quiet_end _ before after asked fault is can of read same) (λ high. (same, stays))
      (subst (λ t. LeavesFor remaining before.paths asked before.moments t after.kept) (sym stays)
      (leaves_same remaining before.paths asked before.moments after.kept))
      (subst (λ left. LeavesInput asked before.input left) (sym read)
      (input_same asked before.input))

  -- a command that fails to read its file ends so
  pub ends_unread : (r : Result T Fault) → ((fault : Fault) → IsBare asked fault)
      → ((fault : Fault) → IsAmong read_faults fault → IsAmong (faults_of asked) fault)
      → IfErr r (IsAmong read_faults) → OnOk r ⊥ → after.moments ≡ before.moments
      → after.input ≡ before.input → after.output ≡ before.output
      → Ends remaining contents asked before after (as_failed r)
  ends_unread (Ok x) bare can is never stays read same = absurd never
  ends_unread (Err fault) bare can is never stays read same =
      let quiet = read_quiet fault is in
      fails_quietly fault (bare fault) quiet.0 (can fault is) (of_no_file _ asked fault quiet.2)
      stays read same

module _ {F W T : Type 0} (remaining : F → Option (List ℕ)) (contents : W → Option (List ℕ)) where
  -- a request ends as the one does that is the same
  pub ends_asked : (asked other : Asked) (before after : World) (r : Result T ProgramFault)
      → asked ≡ other → Ends remaining contents asked before after r
      → Ends remaining contents other before after r
  ends_asked asked other before after r same ends =
      subst (λ a. Ends remaining contents a before after r) same ends

  -- out of memory may be the end of each request
  pub memory_ends : (asked : Asked) (world : World)
      → Ends {T = T} remaining contents asked world world (Err (Failed Memory))
  memory_ends asked world =
      fails_early remaining contents asked world world Memory (bare asked) refl (memory_can asked)
      refl (leaves_same remaining world.paths asked world.moments world.kept) refl refl
    where
      bare : (asked : Asked) → IsBare asked Memory
      bare (about path) = refl
      bare _ = tt

  -- a check or an audit that fails quietly ends so
  pub fails_report : (report : Report) (kind : Kind) (path : List ℕ) (before after : World)
      (fault : Fault) → IsAmong quiet_faults fault → IsAmong check_faults fault
      → IsOf (IsReadFrom remaining before.paths before.moments path) (IsFaultAsked kind) fault
      → after.moments ≡ before.moments → after.input ≡ before.input → after.output ≡ before.output
      → Ends {T = T} remaining contents (report_of report kind path) before after
      (Err (Failed fault))
  fails_report Count kind path before after fault =
      fails_quietly remaining contents (check kind path) before after fault tt
  fails_report Levels kind path before after fault =
      fails_quietly remaining contents (audit kind path) before after fault tt

  -- lines that are arguments end so at status 1, by what was written of the replies
  pub fails_ask : (path lines : List ℕ) (before after : World) (fault : Fault)
      → IsAmong ask_faults fault → status_of fault ≡ 1
      → LeavesWords (IsReadFrom remaining before.paths before.moments path) lines before.output
      after.output fault → after.moments ≡ before.moments → after.input ≡ before.input
      → Ends {T = T} remaining contents (ask path lines) before after (Err (Failed fault))
  fails_ask path lines before after fault can one leaves stays read =
      ends_failed remaining contents (ask path lines) before after (Failed fault)
      (tt, record { can = can; of_file = inl one; turns = tt; leaves = (read, leaves) })
      (no_keeps fault one) stays read

  -- a check or an audit whose file can't be read ends so
  pub report_unread : (report : Report) (kind : Kind) (path : List ℕ) (before after : World)
      (r : Result T Fault) → IfErr r (IsAmong read_faults) → OnOk r ⊥
      → after.moments ≡ before.moments → after.input ≡ before.input → after.output ≡ before.output
      → Ends remaining contents (report_of report kind path) before after (as_failed r)
  report_unread Count kind path before after r =
      ends_unread remaining contents (check kind path) before after r (λ fault. tt)
      (among_more (writing ∷ refusal ∷ []) read_faults)
  report_unread Levels kind path before after r =
      ends_unread remaining contents (audit kind path) before after r (λ fault. tt)
      (among_more (writing ∷ refusal ∷ []) read_faults)

  -- a file that was not read ends `about` so
  pub unread_ends : (path : List ℕ) (before after : World) (ended : ProgramFault)
      → IsUnreadEnd path ended → after.moments ≡ before.moments → after.input ≡ before.input
      → after.output ≡ before.output
      → Ends {T = T} remaining contents (about path) before after (Err ended)
  unread_ends path before after (Words e) is stays read same = absurd is
  unread_ends path before after (Failed fault) is stays read same =
      rw is (fails_early remaining contents (about path) before after Memory refl refl refl refl
      stays read same)
  unread_ends path before after (Explained it) is stays read same =
      let of = unread it.fault it.reason is.1 in
      ends_failed remaining contents (about path) before after (Explained it) (
        ap about (sym is.0),
        of.0,
        quiet_end _ before after (about path) it.fault of.1 of.2 (inl of.3) read same,
      ) (λ high. (same, stays)) stays read
    where
      unread : {E : Type 0} (fault : Fault) (reason : Option E) → (fault ≡ Open) ⊎ (fault ≡ File)
          → IsOfFile fault reason × IsAmong quiet_faults fault × IsAmong check_faults fault
          × (status_of fault ≡ 1)
      unread fault reason (inl same) = rw same (tt, refl, refl, refl)
      unread fault reason (inr same) = rw same (tt, refl, refl, refl)
