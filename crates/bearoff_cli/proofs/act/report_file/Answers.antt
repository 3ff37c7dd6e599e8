-- The fault of the bytes that were read, and what is told of what was accepted.
use Rattle.std.proofs.Common.{◌≡◌, ◌∙◌, Err, inr, refl, ap, subst, sym, rules}
use Rattle.race_model.specs.Prelude.{count_to}
use Rattle.command_line.specs.Asked.{audit, check}
use Rattle.bearoff_cli.specs.Kinds.{asked_as, taken_as}
use Rattle.bearoff_cli.specs.FileAnswers.{IsReadFrom, bound_line, count_line}
use Rattle.bearoff_cli.specs.Requests.{WritesLevelsPart}
use Rattle.bearoff_cli.specs.declared.act.Done.TheVariants.{Checked}
use Rattle.bearoff_cli.proofs.Endings.{check_quiet, ends_written, fails_report, report_unread}
use Rattle.bearoff_cli.proofs.OpenedFiles.{levels_read, on_ok, says, says_part}
use Rattle.bearoff_cli.proofs.StoppedRuns.{read_part}
use Rattle.bearoff_cli.proofs.ToldFaults.{first_asked}
use Rattle.bearoff_cli.proofs.act.report_file.Goals as goal

pub returns-in_err-file : goal.returns-in_err-file
returns-in_err-file g c input =
    report_unread _ _ c.args.report c.args.kind c.args.path.now _ _ c.from_residual.result
    (search rules) (search rules) c.in_err-file.ensures.stays refl refl

pub returns-in_err-kept : goal.returns-in_err-kept
returns-in_err-kept g c input =
    let from = IsReadFrom g.D.Reader.Read.remaining (g.D.Disk.paths c.args.disk.now)
    (g.D.Disk.told c.args.disk.now) c.args.path.now in
    let file = c.as_slice-bytes.result.now in
    let read = subst from (sym c.as_slice-bytes.ensures.value) c.in_ok-file.ensures.read in
    let fault = c.in_err-kept.field-0.0 in
    let same : c.from_residual-in_err-kept.result ≡ Err fault = search rules in
    let first = c.in_err-kept.ensures.fault in
    rw same (fails_report _ _ c.args.report c.args.kind c.args.path.now _ _ fault
    (rw first.2 (check_quiet first.0).0) (rw first.2 (check_quiet first.0).1)
    (inr (file, read, first_asked c.args.kind file _ first c.in_err-kept.ensures.wrong))
    c.in_ok-file.ensures.stays refl refl)

pub returns-in-Count : goal.returns-in-Count
returns-in-Count g c input =
    let from = IsReadFrom g.D.Reader.Read.remaining (g.D.Disk.paths c.args.disk.now)
    (g.D.Disk.told c.args.disk.now) c.args.path.now in
    let file = c.as_slice-bytes.result.now in
    let read = subst from (sym c.as_slice-bytes.ensures.value) c.in_ok-file.ensures.read in
    let kept = c.in_ok-kept.ensures.accepted in
    let kind = asked_as c.args.kind in
    let old = g.O.Write.contents c.args.output.now in
    let new = g.O.Write.contents c.write_flushed.new.output in
    let line = c.as_bytes.ensures.value ∙ c.as_str.ensures.value ∙ c.count_line-line.ensures in
    let r = c.write_flushed.result in
    let is = line ∙ ap (λ n. count_line Checked n (count_to n)) kept.bound in
    rw c.in-Count.is (ends_written _ _ (check c.args.kind c.args.path.now) _ _ r tt refl
    c.write_flushed.ensures.cause
    (says_part kind from (λ f text. text ≡ bound_line Checked f) file _ old new r read kept.right
    is c.write_flushed.ensures.part)
    (says kind from (λ f text. text ≡ bound_line Checked f) file _ old new r read kept.right is
    c.write_flushed.ensures.all) (on_ok r _ tt) c.in_ok-file.ensures.stays refl)

pub returns : goal.returns
returns g c input =
    let from = IsReadFrom g.D.Reader.Read.remaining (g.D.Disk.paths c.args.disk.now)
    (g.D.Disk.told c.args.disk.now) c.args.path.now in
    let file = c.as_slice-bytes.result.now in
    let read = subst from (sym c.as_slice-bytes.ensures.value) c.in_ok-file.ensures.read in
    let right = c.in_ok-kept.ensures.accepted.right in
    let kind = asked_as c.args.kind in
    let old = g.O.Write.contents c.args.output.now in
    let new = g.O.Write.contents c.write_levels.new.output in
    let r = c.write_levels.result in
    rw c.in-Levels.is (ends_written _ _ (audit c.args.kind c.args.path.now) _ _ r tt refl
    c.write_levels.ensures.cause (read_part kind from
    (λ f. WritesLevelsPart (taken_as c.args.kind f) f old new) file old new r read right
    (rw c.taken_kind.ensures at c.write_levels.ensures.part))
    (levels_read kind from file old new r read right
    (rw c.taken_kind.ensures at c.write_levels.ensures.levels)) (on_ok r _ tt)
    c.in_ok-file.ensures.stays refl)
