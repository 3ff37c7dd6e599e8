-- What stands in the output where a command failed, from what its parts wrote.
use Rattle.std.proofs.Common.{◌≡◌, ℕ, suc, ◌≤◌, ◌⊎◌, inl, inr, List, ◌∷◌, [], ◌++◌, take, Option, Some, Result, Ok, Err}
use Rattle.std.proofs.Common.{IfErr, refl, ap, subst, ◌∙◌, arith, OnErr}
use Rattle.std.specs.Io.KnownBytes.{Keeps}
use Rattle.std.proofs.lemmas.List.{append-nil}
use Rattle.race_model.specs.Prelude.{IsBuilt, whole_lines, lines_of, Book, bound_of}
use Rattle.race_model.proofs.Replies.InputLines.{pieces_stay}
use Rattle.retrograde.specs.UsualVersion.{usual_version}
use Rattle.db_layout.proofs.Known.{appends_kept, appends_twice}
use Rattle.db_layout.specs.declared.stated.Kind.{Kind}
use Rattle.db_layout.specs.declared.stated.Kind.TheVariants.{Database}
use Rattle.epc_query.specs.Runs.{HasAnswered, HasPart, HasReplies, IsRunStopped, IsStoppedAt}
use Rattle.epc_query.specs.declared.run_fault.RunFault.{RunFault}
use Rattle.epc_query.specs.declared.run_fault.RunFault.TheVariants.{Read, Write, Table, Memory, Turns}
use Rattle.epc_query.specs.declared.run_fault.RunFault.TheVariants.{Turns as NoTurns}
use Rattle.query_text.proofs.Held.{appends_same, part_after, part_all}
use Rattle.epc_query.proofs.Runs.{failed_flush, flushed, read_front, stopped_in}
use Rattle.bearoff_cli.specs.declared.fault.Fault.{Fault}
use Rattle.bearoff_cli.specs.FileAnswers.{WritesLevels}
use Rattle.epc_query.specs.Kinds.{IsRightAs, stated_kind}
use Rattle.bearoff_cli.specs.Kinds.{kind_as}
use Rattle.bearoff_cli.specs.Requests.{AreStopped, IsNothingOr, LeavesWords, WritesLevelsPart, WritesLevelPart}
use Rattle.bearoff_cli.specs.Faults.{IsAmong, UsesTurns, answer_faults, opening, refusal, of_run}
use Rattle.bearoff_cli.proofs.ToldFaults.{among_more}
use Rattle.db_reader.specs.Telling.{WhereTold}
use Rattle.epc_query.specs.UsedReads.{HasUsed}

-- ---- which faults a command can end with, from those of its parts

-- a run stopped
pub run_answer : (cause : RunFault) → IsAmong answer_faults (of_run cause)
run_answer NoTurns = refl
run_answer _ = refl

-- a run whose reads ran out used so many
pub run_turns : (input left : Option (List ℕ)) (cause : RunFault)
    → WhereTold input (λ given. HasUsed 1099511627776 given left cause)
    → UsesTurns input left (of_run cause)
run_turns input left NoTurns used = used
run_turns input left _ used = tt

-- ---- what stands in the output

-- whole lines of pip counts are a part of all lines
pub levels_part : (kind : Kind) (file : List ℕ) (count : ℕ) (old new : Option (List ℕ))
    → count ≤ suc (bound_of file) → WritesLevels kind file count old new
    → WritesLevelsPart kind file old new
levels_part kind file count old new within written = record {
  count = count;
  within = within;
  lines = written.lines;
  levels = written.levels;
  written = part_all old new written.lines written.written;
}

-- whole lines of pip counts with a part of the next one are a part of all lines
pub levels_and_part : (kind : Kind) (file : List ℕ) (p : ℕ) (old mid new : Option (List ℕ))
    → p ≤ bound_of file → WritesLevels kind file p old mid → WritesLevelPart kind file p mid new
    → WritesLevelsPart kind file old new
levels_and_part kind file p old mid new within before next = record {
  count = suc p;
  within = omega (arith, within);
  lines = before.lines ++ (next.line ++ 10 ∷ []);
  levels = (before.lines, next.line, before.levels, next.is, refl);
  written = part_after old mid new before.lines (next.line ++ 10 ∷ []) before.written
      next.written;
}

-- what was written of a file that was read
pub read_part : {A : Type 0} (kind : Option Kind) (From : List ℕ → Type 0)
    (Says : List ℕ → Type 0) (file : List ℕ) (old new : Option (List ℕ)) (r : Result A Fault)
    → From file → IsRightAs (kind_as kind file) file → OnErr r (Says file)
    → OnErr r (IsNothingOr kind From Says old new)
read_part kind From Says file old new (Ok x) read right says = tt
read_part kind From Says file old new (Err e) read right says = inr (file, read, right, says)

-- where it stopped, it did so with nothing written, or so
pub may_be_stopped : {A : Type 0} (N : Type 0) (Stops : Fault → Type 0) (r : Result A Fault)
    → IfErr r Stops → IfErr r (λ fault. N ⊎ Stops fault)
may_be_stopped N Stops (Ok x) stops = tt
may_be_stopped N Stops (Err e) stops = inr stops

-- a run over a file that was read stopped with nothing written, or so
pub read_stopped : {A : Type 0} (kind : Option Kind) (From : List ℕ → Type 0)
    (file given : List ℕ) (left old new : Option (List ℕ)) (r : Result A Fault)
    → From file
    → IfErr r (λ fault. (new ≡ old) ⊎ AreStopped (kind_as kind file) file given left old new fault)
    → IfErr r (λ fault.
    IsNothingOr kind From (λ f. AreStopped (kind_as kind f) f given left old new fault) old new)
read_stopped kind From file given left old new (Ok x) read stops = tt
read_stopped kind From file given left old new (Err e) read (inl same) = inl same
read_stopped kind From file given left old new (Err e) read (inr stops) =
    inr (file, read, stops.right, stops)

-- where the lines are words, a run over a file that was read stopped so
pub words_stopped : (From : List ℕ → Type 0) (kind : Kind) (file words given : List ℕ)
    (rest old new : Option (List ℕ)) (fault : Fault) → From file → kind ≡ stated_kind file
    → words ≡ given → IsAmong answer_faults fault → UsesTurns (Some words) rest fault
    → WhereTold (Some words) (λ text. AreStopped kind file text rest old new fault)
    → LeavesWords From given old new fault
words_stopped From kind file words given rest old new fault read stated same cause turns stops =
    inr (
      among_more (opening ∷ refusal ∷ []) answer_faults fault cause,
      (
        rest,
        subst (λ text. UsesTurns (Some text) rest fault) same turns,
        λ text told.
            let it = subst (λ kind. AreStopped kind file text rest old new fault) stated
            (stops text (ap Some same ∙ told)) in
            inr (file, read, it.right, it),
      ),
    )

-- where the lines are words, the input is left alone
pub beside_words : {A : Type 0} (input : Option (List ℕ)) (Left : Fault → Type 0)
    (r : Result A Fault) → IfErr r Left → IfErr r (λ fault. (input ≡ input) × Left fault)
beside_words input Left (Ok x) left = tt
beside_words input Left (Err e) left = (refl, left)

-- a run over the built file stopped so
pub built_stopped : {A : Type 0} (file given : List ℕ) (left old new : Option (List ℕ))
    (r : Result A Fault) → IsBuilt (usual_version 8) 8 file
    → IfErr r (λ fault. (new ≡ old) ⊎ AreStopped Database file given left old new fault)
    → IfErr r (λ fault. (new ≡ old) ⊎ ((f : List ℕ) × IsBuilt (usual_version 8) 8 f
    × AreStopped Database f given left old new fault))
built_stopped file given left old new (Ok x) built stops = tt
built_stopped file given left old new (Err e) built (inl same) = inl same
built_stopped file given left old new (Err e) built (inr stops) = inr (file, built, stops)

-- a flush that failed leaves the part that was written
part_kept : (f : Book) (lines : List (List ℕ)) (old mid new : Option (List ℕ))
    → HasPart f lines old mid → Keeps mid new → HasPart f lines old new
part_kept f lines old mid new part kept =
    let front = take part.written.0 part.text in record {
      text = part.text;
      replies = part.replies;
      written = (
        part.written.0,
        appends_same old new (front ++ []) front (append-nil front)
            (appends_twice old mid new front [] part.written.1 (appends_kept mid new kept)),
      );
    }

-- a flush that failed leaves the replies, which are a part of themselves
replies_part : (f : Book) (lines : List (List ℕ)) (old mid new : Option (List ℕ))
    → HasReplies f lines old mid → Keeps mid new → HasPart f lines old new
replies_part f lines old mid new has kept =
    let now = flushed f lines old mid new has kept in record {
      text = now.text;
      replies = now.replies;
      written = part_all old new now.text now.written;
    }

-- the replies to the whole lines of what was read are a part of all
answered_part : (f : Book) (input : List ℕ) (left old mid new : Option (List ℕ))
    → HasAnswered f input left old mid → Keeps mid new
    → IsStoppedAt f (lines_of input) old new Write
answered_part f input left old mid new (done, read, has) kept =
    let front = read_front input left done read in
    let later = pieces_stay done front.0 in
    stopped_in f done front.0 input later.0 old new Write front.1 later.1
    (failed_flush f (whole_lines done) old mid new has kept)

-- answers that stopped, and then a flush that failed, are those to some lines, or a part of them
pub failed_end : (f : Book) (input : List ℕ) (left old mid new : Option (List ℕ))
    (cause : RunFault) → IsRunStopped f input left old mid cause → Keeps mid new
    → IsRunStopped f input left old new Write
failed_end f input left old mid new Read has kept = answered_part f input left old mid new has kept
failed_end f input left old mid new Turns has kept =
    answered_part f input left old mid new has kept
failed_end f input left old mid new Write (n, low, part) kept =
    (n, low, part_kept f (take n (lines_of input)) old mid new part kept)
failed_end f input left old mid new Table (n, low, records, has) kept =
    (n, omega (arith, low), replies_part f (take n (lines_of input)) old mid new has kept)
failed_end f input left old mid new Memory (n, low, moves, has) kept =
    (n, omega (arith, low), replies_part f (take n (lines_of input)) old mid new has kept)
