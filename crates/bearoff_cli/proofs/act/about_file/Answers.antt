-- What is told of the bytes that were read, or of their first fault.
use Rattle.std.proofs.Common.{◌≡◌, ◌∙◌, None, inr, refl, subst, sym}
use Rattle.command_line.specs.Asked.{about}
use Rattle.bearoff_cli.specs.declared.act.ProgramFault.TheVariants.{Explained}
use Rattle.bearoff_cli.specs.FileAnswers.{IsReadFrom, about_file}
use Rattle.bearoff_cli.proofs.Endings.{check_of_file, check_quiet, ends_failed, ends_written, quiet_end, unread_ends}
use Rattle.bearoff_cli.proofs.OpenedFiles.{about_is, on_ok, says, says_part}
use Rattle.bearoff_cli.proofs.ToldFaults.{check_in}
use Rattle.bearoff_cli.proofs.act.about_file.Goals as goal

pub returns-in-Err : goal.returns-in-Err
returns-in-Err g c input =
    unread_ends _ _ c.args.path.now _ _ _ c.explained.ensures c.in-Err.ensures.stays refl refl

pub returns : goal.returns
returns g c input =
    let file = c.as_slice-bytes.result.now in
    let read = subst (IsReadFrom g.D.Reader.Read.remaining (g.D.Disk.paths c.args.disk.now)
    (g.D.Disk.told c.args.disk.now) c.args.path.now) (sym c.as_slice-bytes.ensures.value)
    c.in-Ok.ensures.read in
    let cause = c.in-Err-accept_stated.cause in
    let first = c.in-Err-accept_stated.ensures.fault in
    let stays = c.in-Ok.ensures.stays in
    rw c.from.ensures (ends_failed _ _ (about c.args.path.now) _ _ (Explained _) (
      refl,
      check_of_file _ cause,
      quiet_end _ _ _ (about c.args.path.now) _ (check_quiet cause).0 (check_quiet cause).1
          (inr (file, read, check_in _ file cause first)) refl refl,
    ) (λ high. (refl, stays)) stays refl)

pub returns-in-Ok-accept_stated : goal.returns-in-Ok-accept_stated
returns-in-Ok-accept_stated g c input =
    let from = IsReadFrom g.D.Reader.Read.remaining (g.D.Disk.paths c.args.disk.now)
    (g.D.Disk.told c.args.disk.now) c.args.path.now in
    let file = c.as_slice-bytes.result.now in
    let read = subst from (sym c.as_slice-bytes.ensures.value) c.in-Ok.ensures.read in
    let kept = c.in-Ok-accept_stated.ensures.accepted in
    let line = c.as_bytes.ensures.value ∙ c.as_str.ensures.value ∙ c.about_text-text.ensures in
    let is = line ∙ about_is file _ _ _ c.stated_kind-kind.ensures kept.version kept.bound in
    let old = g.O.Write.contents c.args.output.now in
    let new = g.O.Write.contents c.write_flushed.new.output in
    let r = c.write_flushed.result in
    rw c.refused.ensures (ends_written _ _ (about c.args.path.now) _ _ r refl refl
    c.write_flushed.ensures.cause
    (says_part None from (λ f text. text ≡ about_file f) file _ old new r read kept.right is
    c.write_flushed.ensures.part)
    (says None from (λ f text. text ≡ about_file f) file _ old new r read kept.right is
    c.write_flushed.ensures.all) (on_ok r _ tt) c.in-Ok.ensures.stays refl)
