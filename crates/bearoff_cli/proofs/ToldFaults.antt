-- What the faults of the parts say of a file.
use Rattle.std.proofs.Common.{◌≡◌, ℕ, List, [], ◌++◌, Option, Result, Ok, Err, IfErr, inl, inr, refl, ap, subst, sym}
use Rattle.std.proofs.Common.{◌∙◌, ◌<◌, arith, OnOk, Bool, true, false, ◌||◌, ◌∷◌, nat_le, if◌then◌else◌}
use Rattle.std.proofs.lemmas.Bool.{false≢true}
use Rattle.std.specs.List.{list_any}
use Rattle.certificate.specs.declared.check_fault.CheckFault.{CheckFault}
use Rattle.certificate.specs.declared.check_fault.CheckFault.TheVariants.{Read as TableRead}
use Rattle.db_layout.specs.declared.stated.Kind.{Kind}
use Rattle.bearoff_cli.specs.Faults.{IsOf, of_check, error_line, status_of, Class, IsAmong, IsFaultAsked, IsFaultIn}
use Rattle.bearoff_cli.specs.Faults.{UsesTurns, bound, build_faults, faults_of, is_of, memory}
use Rattle.epc_query.specs.Kinds.{IsRightAs, IsFirstAs}
use Rattle.bearoff_cli.specs.Kinds.{greatest, taken_as}
use Rattle.bearoff_cli.specs.Meanings.{meaning_line, shown}
use Rattle.bearoff_cli.specs.declared.fault.Fault.{Fault}
use Rattle.bearoff_cli.specs.declared.fault.Fault.TheVariants.{Open, File, Write, Memory, Turns, OverBound, Refused}
use Rattle.bearoff_cli.specs.declared.fault.Fault.TheVariants.{NotOld}
use Rattle.command_line.specs.Asked.{Asked, build, about}
use Rattle.bearoff_cli.specs.Requests.{IsBare, IsEndOf, IsOfFile, IsRefusalOf, refusal_status, World}
use Rattle.bearoff_cli.specs.Tellings.{ExplainsBy, IsExplainedFor, IsReasonOf, IsReported, IsToldBy, Tells}
use Rattle.bearoff_cli.specs.declared.act.ProgramFault.{ProgramFault}
use Rattle.bearoff_cli.specs.declared.act.ProgramFault.TheVariants.{Words, Failed, Explained}

-- a fault of some classes is of these and more
pub among_more : (more classes : List Class) (fault : Fault) → IsAmong classes fault
    → IsAmong (more ++ classes) fault
among_more [] classes fault is = is
among_more (class ∷ more) classes fault is =
    either (is_of fault class) _ (among_more more classes fault is)
  where
    either : (a b : Bool) → b ≡ true → (a || b) ≡ true
    either true b is = refl
    either false b is = is

-- the first fault that a check found
pub check_in : (kind : Kind) (file : List ℕ) (cause : CheckFault) → IsFirstAs kind file cause
    → IsFaultIn kind file (of_check cause)
check_in kind file TableRead is = tt
check_in kind file _ is = is

-- the first fault of a file that is asked for, and is not taken
pub first_asked : (asked : Kind) (file : List ℕ) (fault : Fault)
    → (cause : CheckFault) × IsFirstAs asked file cause × (fault ≡ of_check cause)
    → ¬ IsRightAs (taken_as asked file) file → IsFaultAsked asked file fault
first_asked asked file fault (cause, first, is) wrong = rw is (by cause first) where
  by : (cause : CheckFault) → IsFirstAs asked file cause → IsFaultAsked asked file (of_check cause)
  by TableRead first = tt
  by _ first = (first, wrong)

-- the fault of a file that was read and asked for
pub asked_of : {A : Type 0} (asked : Kind) (From : List ℕ → Type 0)
    (file : List ℕ) (r : Result A Fault) → From file
    → IfErr r (λ fault. IsFaultAsked asked file fault)
    → IfErr r (IsOf From (IsFaultAsked asked))
asked_of asked From file (Ok x) read is = tt
asked_of asked From file (Err fault) read is = inr (file, read, is)

-- out of memory may be the end of each request
pub memory_can : (asked : Asked) → IsAmong (faults_of asked) Memory
memory_can (build kind pips path) = either (nat_le pips (greatest kind))
  where
    either : (within : Bool)
        → IsAmong (if within then build_faults else bound ∷ memory ∷ []) Memory
    either true = refl
    either false = refl
memory_can _ = refl

-- no read ran out where none can
pub none_ran : (classes : List Class) → list_any (is_of Turns) classes ≡ false
    → (input left : Option (List ℕ)) (fault : Fault) → IsAmong classes fault
    → UsesTurns input left fault
none_ran classes never input left Turns is = absurd (false≢true (sym never ∙ is))
none_ran classes never input left _ is = tt

-- the line of a fault that is not explained is what is told of it
bare_text : (asked : Asked) (fault : Fault) → IsBare asked fault
    → Tells asked fault (error_line fault)
bare_text (about path) Write is = refl
bare_text (about path) Memory is = refl
bare_text (about path) _ is = absurd (false≢true is)
bare_text _ fault is = refl

-- the line of a file's fault is told with what it means
explained_text : {E : Type 0} (path : List ℕ) (fault : Fault) (error : Option E) (reason : List ℕ)
    → IsReasonOf error reason → IsOfFile fault error
    → ExplainsBy path fault (error_line fault ++ meaning_line (shown path) fault reason)
explained_text path Open error reason is of = (reason, refl)
explained_text path File error reason is of = (reason, refl)
explained_text path (Refused cause) error reason is of =
    let none : reason ≡ [] = subst (λ e. IsReasonOf e reason) of is in
    ap (λ r. error_line (Refused cause) ++ meaning_line (shown path) (Refused cause) r) none
explained_text path _ error reason is of = absurd of

-- what is told of any end that is no mistake in the words
pub told_any : {A : Type 0} (words : List (List ℕ)) (r : Result A ProgramFault) (status : ℕ)
    (Line : List ℕ → Type 0) (Same : Type 0) → OnOk r ((status ≡ 0) × Same)
    → IfErr r (λ refusal. IsToldBy refusal status Line) → IfErr r (IsExplainedFor words)
    → 0 < status → ¬ (status ≡ 2) → IsReported words Line status
told_any words (Ok x) status Line Same silent told for some other =
    absurd (omega (arith, silent.0, some))
told_any words (Err (Words e)) status Line Same silent told for some other = absurd (other told)
told_any words (Err (Failed e)) status Line Same silent told for some other =
    (e, error_line e, (told.0, inl refl, told.1))
told_any words (Err (Explained it)) status Line Same silent told for some other =
    let more = meaning_line (shown it.path.now) it.fault told.1.0 in (
      it.fault,
      error_line it.fault ++ more,
      (told.0, inr (for.0, more, for.1, refl), told.1.2),
    )

-- the end of a request that was refused, as it was told
pub told_end : {A : Type 0} (From : List ℕ → List ℕ → Type 0) (asked : Asked)
    (before after : World) (r : Result A ProgramFault) (status : ℕ)
    (Line : List ℕ → Type 0) (Same : Type 0) → OnOk r ((status ≡ 0) × Same)
    → IfErr r (λ refusal. IsToldBy refusal status Line)
    → IfErr r (IsRefusalOf From asked before after) → 0 < status
    → (fault : Fault) × (text : List ℕ) × ((status ≡ status_of fault) × Tells asked fault text
    × Line text × IsEndOf From asked before after fault)
told_end From asked before after (Ok x) status Line Same silent told refusal some =
    absurd (omega (arith, silent.0, some))
told_end From asked before after (Err (Words e)) status Line Same silent told refusal some =
    absurd refusal
told_end From asked before after (Err (Failed e)) status Line Same silent told refusal some =
    (e, error_line e, (told.0, bare_text asked e refusal.0, told.1, refusal.1))
told_end From asked before after (Err (Explained it)) status Line Same silent told refusal some =
    let text = error_line it.fault ++ meaning_line (shown it.path.now) it.fault told.1.0 in
    let tells = explained_text it.path.now it.fault it.reason told.1.0 told.1.1 refusal.1 in (
      it.fault,
      text,
      (
        told.0,
        subst (λ a. Tells a it.fault text) (sym refusal.0) tells,
        told.1.2,
        refusal.2,
      ),
    )

-- what holds at refusals of a status over 1 holds at such a status
pub at_refusal : {A P : Type 0} (r : Result A ProgramFault) (status : ℕ) (Line : List ℕ → Type 0)
    (Same : Type 0) → OnOk r ((status ≡ 0) × Same)
    → IfErr r (λ refusal. IsToldBy refusal status Line)
    → IfErr r (λ refusal. 1 < refusal_status refusal → P) → 1 < status → P
at_refusal (Ok x) status Line Same silent told keeps high = absurd (omega (arith, silent.0, high))
at_refusal (Err (Words e)) status Line Same silent told keeps high = keeps (omega arith)
at_refusal (Err (Failed e)) status Line Same silent told keeps high =
    keeps (subst (λ n. 1 < n) told.0 high)
at_refusal (Err (Explained it)) status Line Same silent told keeps high =
    keeps (subst (λ n. 1 < n) told.0 high)

-- no fault has the status 0
some_status : (fault : Fault) → status_of fault ≡ 0 → ⊥
some_status OverBound is = omega (arith, is)
some_status (Refused cause) is = omega (arith, is)
some_status NotOld is = omega (arith, is)
some_status _ is = omega (arith, is)

-- what holds of a request that was fulfilled holds at the status 0
pub told_done : {A P : Type 0} (r : Result A ProgramFault) (status : ℕ) (Line : List ℕ → Type 0)
    → IfErr r (λ refusal. IsToldBy refusal status Line) → OnOk r P → status ≡ 0 → P
told_done (Ok x) status Line told done none = done
told_done (Err (Words e)) status Line told done none = absurd (omega (arith, told, none))
told_done (Err (Failed e)) status Line told done none =
    absurd (some_status e (sym told.0 ∙ none))
told_done (Err (Explained it)) status Line told done none =
    absurd (some_status it.fault (sym told.0 ∙ none))
