-- The upgrade was handed to the writer of the file that was begun.
use Rattle.std.specs.Io.Buffered.{writer_contents}
use Rattle.certificate.specs.Upgrades.{WritesUpgrade}
use Rattle.race_model.specs.Prelude.{IsUpgrade}
use Rattle.whole_file.proofs.Puts.{puts, tidy_besides, tidy_ended}
use Rattle.bearoff_cli.proofs.OpenedFiles.{handed}
use Rattle.bearoff_cli.proofs.KeptFiles.{keeps, keeps_stays}
use Rattle.bearoff_cli.proofs.files.upgrade_file.Goals as goal

pub returns-clause-upgraded : goal.returns-clause-upgraded
returns-clause-upgraded g c file told =
    handed (writer_contents g.D.File.Write.contents) (WritesUpgrade file)
    c.in_ok-draft.draft.writer c.upgrade_into-written.new.output
    c.upgrade_into-written.result c.finish_file.result
    (c.upgrade_into-written.ensures.upgraded file told) c.finish_file.ensures.fault

pub returns-clause-put : goal.returns-clause-put
returns-clause-put g c file told =
    puts (g.D.Disk.paths c.args.disk.now) c.args.path.now c.in_ok-draft.draft.names _ _
    (g.D.Disk.told c.args.disk.now) _ _ (IsUpgrade file) c.upgrade_into-written.result
    c.finish_file.result c.in_ok-draft.ensures.begun
    (c.upgrade_into-written.ensures.upgraded file told) c.finish_file.ensures.fault
    (rw c.in_ok-draft.ensures.paths at c.finish_file.ensures.put)

pub returns-clause-kept : goal.returns-clause-kept
returns-clause-kept g c file told = (
  keeps (g.D.Disk.paths c.args.disk.now) c.args.path.now c.in_ok-draft.draft.names _ _
      (g.D.Disk.told c.args.disk.now) _ _ (IsUpgrade file) c.upgrade_into-written.result
      c.in_ok-draft.ensures.begun (c.upgrade_into-written.ensures.upgraded file told)
      (rw c.in_ok-draft.ensures.paths at c.finish_file.ensures.kept)
      (rw c.in_ok-draft.ensures.paths at c.finish_file.ensures.dropped),
  tidy_ended (g.D.Disk.paths c.args.disk.now) c.args.path.now c.in_ok-draft.draft.names _ _
      (g.D.Disk.told c.args.disk.now) _ _ (IsUpgrade file) c.upgrade_into-written.result _
      c.in_ok-draft.ensures.begun (c.upgrade_into-written.ensures.upgraded file told)
      (rw c.in_ok-draft.ensures.paths at c.finish_file.ensures.gone),
)

pub returns-in_err-draft-clause-kept : goal.returns-in_err-draft-clause-kept
returns-in_err-draft-clause-kept g c file told = (
  keeps_stays (g.D.Disk.paths c.args.disk.now) c.args.path.now _ _ (IsUpgrade file)
      c.in_err-draft.ensures.stays.0,
  tidy_besides (g.D.Disk.paths c.args.disk.now) c.args.path.now _ _ _
      c.in_err-draft.ensures.stays.1,
)
