-- The replies to words over the bytes that were read, and whether one of them is an answer.
use Rattle.std.proofs.Common.{◌≡◌, Err, Some, inl, inr, [], ◌∷◌, refl, ap, subst, sym, rules}
use Rattle.command_line.specs.Asked.{ask}
use Rattle.bearoff_cli.specs.Faults.{answer_faults, of_check, opening, query_faults, refusal, unanswered}
use Rattle.bearoff_cli.specs.FileAnswers.{AnswersWords, IsReadFrom}
use Rattle.bearoff_cli.specs.declared.fault.Fault.TheVariants.{Unanswered}
use Rattle.bearoff_cli.proofs.Endings.{answer_status, check_quiet, ends_unread, fails_ask, fails_quietly, read_quiet}
use Rattle.bearoff_cli.proofs.OpenedFiles.{words_answered}
use Rattle.bearoff_cli.proofs.StoppedRuns.{words_stopped}
use Rattle.bearoff_cli.proofs.ToldFaults.{among_more, check_in}
use Rattle.bearoff_cli.proofs.act.answer_words.Given.{Over}
use Rattle.bearoff_cli.proofs.act.answer_words.Goals.{After-hint}
use Rattle.bearoff_cli.proofs.act.answer_words.Goals as goal

-- all was written, and whether a line has an answer is told
told : (g : Over) (c : After-hint g) → AnswersWords c.hint.result
    (IsReadFrom g.D.Reader.Read.remaining (g.D.Disk.paths c.args.disk.now)
    (g.D.Disk.told c.args.disk.now) c.args.path.now) c.args.lines.now
    (g.O.Write.contents c.args.output.now) (g.O.Write.contents c.answer.new.output)
told g c =
    let From = IsReadFrom g.D.Reader.Read.remaining (g.D.Disk.paths c.args.disk.now)
    (g.D.Disk.told c.args.disk.now) c.args.path.now in
    words_answered c.hint.result From _ c.as_slice-bytes.result.now c.args.lines.now _ _ _ _
    (subst From (sym c.as_slice-bytes.ensures.value) (c.in_ok-file.ensures {u = tt}).read)
    c.stated_kind-kind.ensures (c.in_ok-kept.ensures {u = tt}).accepted.bound
    ((c.in_ok-answer.ensures {u = tt}).answers c.args.lines.now
    (ap Some c.as_bytes-words.ensures.value)) c.hint.ensures

pub returns-in_err-file : goal.returns-in_err-file
returns-in_err-file g c input =
    ends_unread _ _ (ask c.args.path.now c.args.lines.now) _ _ c.from_residual.result (λ fault. tt)
    (λ fault is. among_more (unanswered ∷ []) query_faults fault (read_quiet fault is).1)
    (search rules) (search rules) c.in_err-file.ensures.stays refl refl

pub returns-in_err-kept : goal.returns-in_err-kept
returns-in_err-kept g c input =
    let From = IsReadFrom g.D.Reader.Read.remaining (g.D.Disk.paths c.args.disk.now)
    (g.D.Disk.told c.args.disk.now) c.args.path.now in
    let file = c.as_slice-bytes.result.now in
    let cause = c.in_err-kept.field-0.0 in
    let same : c.from_residual-in_err-kept.result ≡ Err (of_check cause) = search rules in
    rw same (fails_quietly _ _ (ask c.args.path.now c.args.lines.now) _ _ (of_check cause) tt
    (check_quiet cause).0 (check_quiet cause).2 (inr (
      file,
      subst From (sym c.as_slice-bytes.ensures.value) c.in_ok-file.ensures.read,
      check_in _ file cause c.in_err-kept.ensures.fault,
    )) c.in_ok-file.ensures.stays refl refl)

pub returns-in_err-answer : goal.returns-in_err-answer
returns-in_err-answer g c input =
    let From = IsReadFrom g.D.Reader.Read.remaining (g.D.Disk.paths c.args.disk.now)
    (g.D.Disk.told c.args.disk.now) c.args.path.now in
    let fault = c.in_err-answer.field-0.0 in
    let same : c.from_residual-in_err-answer.result ≡ Err fault = search rules in
    let it = c.in_err-answer.ensures {u = tt} in
    rw same (fails_ask _ _ c.args.path.now c.args.lines.now _ _ fault
    (among_more (unanswered ∷ opening ∷ refusal ∷ []) answer_faults fault it.cause)
    (answer_status fault it.cause) (words_stopped From _ c.as_slice-bytes.result.now _
    c.args.lines.now _ _ _ fault (subst From (sym c.as_slice-bytes.ensures.value)
    (c.in_ok-file.ensures {u = tt}).read) c.stated_kind-kind.ensures
    c.as_bytes-words.ensures.value it.cause it.turns it.left)
    (c.in_ok-file.ensures {u = tt}).stays refl)

pub returns-in-Some : goal.returns-in-Some
returns-in-Some g c input =
    let at = (goal.at.returns-in-Some g c).After-hint in
    fails_ask _ _ c.args.path.now c.args.lines.now _ _ (Unanswered c.in-Some.hint) refl refl
    (inl (c.in-Some.hint, refl, rw c.in-Some.is at (told g at))) c.in_ok-file.ensures.stays refl

pub returns : goal.returns
returns g c input =
    let at = (goal.at.returns g c).After-hint in
    record {
      fault = tt;
      done = (refl, rw c.in-None.is at (told g at));
      put = tt;
      keeps = tt;
      leaves = c.in_ok-file.ensures.stays;
      unread = refl;
    }
