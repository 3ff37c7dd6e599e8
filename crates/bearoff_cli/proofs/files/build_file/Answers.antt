-- The built file was handed to the writer of the file that was begun.
use Rattle.std.proofs.Common.{OnOk, subst, sym}
use Rattle.std.specs.Io.Buffered.{writer_contents}
use Rattle.bearoff_cli.specs.Kinds.{IsBuiltOf, WritesBuiltOf}
use Rattle.whole_file.proofs.Puts.{puts, tidy_besides, tidy_ended}
use Rattle.bearoff_cli.proofs.OpenedFiles.{handed, ok-weaker}
use Rattle.bearoff_cli.proofs.KeptFiles.{keeps, keeps_all, keeps_stays}
use Rattle.bearoff_cli.proofs.files.build_file.Given.{Over}
use Rattle.bearoff_cli.proofs.files.build_file.Goals.{After-write_flushed-written}
use Rattle.bearoff_cli.proofs.files.build_file.Goals as goal

-- the bytes that were written are the built file
written : (g : Over) (c : After-write_flushed-written g) → OnOk c.write_flushed-written.result
    (WritesBuiltOf c.args.kind c.args.pips (writer_contents g.D.File.Write.contents
    c.in_ok-draft.draft.writer) (writer_contents g.D.File.Write.contents
    c.write_flushed-written.new.output))
written g c =
    ok-weaker c.write_flushed-written.result (λ all. (
      c.as_slice.result.now,
      subst (IsBuiltOf c.args.kind c.args.pips) (sym c.as_slice.ensures.value)
          (c.in_ok-file.ensures {u = tt}),
      all,
    )) c.write_flushed-written.ensures.all

pub returns-clause-built : goal.returns-clause-built
returns-clause-built g c =
    let built = written g (goal.at.returns-clause-built g c).After-write_flushed-written in
    handed (writer_contents g.D.File.Write.contents) (WritesBuiltOf c.args.kind c.args.pips)
    c.in_ok-draft.draft.writer c.write_flushed-written.new.output c.write_flushed-written.result
    c.finish_file.result built c.finish_file.ensures.fault

pub returns-clause-put : goal.returns-clause-put
returns-clause-put g c =
    let built = written g (goal.at.returns-clause-put g c).After-write_flushed-written in
    puts (g.D.Disk.paths c.args.disk.now) c.args.path.now c.in_ok-draft.draft.names _ _
    (g.D.Disk.told c.args.disk.now) _ _ (IsBuiltOf c.args.kind c.args.pips)
    c.write_flushed-written.result c.finish_file.result c.in_ok-draft.ensures.begun built
    c.finish_file.ensures.fault (rw c.in_ok-draft.ensures.paths at c.finish_file.ensures.put)

pub returns-clause-kept : goal.returns-clause-kept
returns-clause-kept g c =
    let built = written g (goal.at.returns-clause-kept g c).After-write_flushed-written in (
      keeps (g.D.Disk.paths c.args.disk.now) c.args.path.now c.in_ok-draft.draft.names _ _
          (g.D.Disk.told c.args.disk.now) _ _ (IsBuiltOf c.args.kind c.args.pips)
          c.write_flushed-written.result c.in_ok-draft.ensures.begun built
          (rw c.in_ok-draft.ensures.paths at c.finish_file.ensures.kept)
          (rw c.in_ok-draft.ensures.paths at c.finish_file.ensures.dropped),
      tidy_ended (g.D.Disk.paths c.args.disk.now) c.args.path.now c.in_ok-draft.draft.names _ _
          (g.D.Disk.told c.args.disk.now) _ _ (IsBuiltOf c.args.kind c.args.pips)
          c.write_flushed-written.result _ c.in_ok-draft.ensures.begun built
          (rw c.in_ok-draft.ensures.paths at c.finish_file.ensures.gone),
    )

pub returns-in_err-draft-clause-kept : goal.returns-in_err-draft-clause-kept
returns-in_err-draft-clause-kept g c = (
  keeps_stays (g.D.Disk.paths c.args.disk.now) c.args.path.now _ _
      (IsBuiltOf c.args.kind c.args.pips) c.in_err-draft.ensures.stays.0,
  tidy_besides (g.D.Disk.paths c.args.disk.now) c.args.path.now _ _ _
      c.in_err-draft.ensures.stays.1,
)

pub returns-in_err-file-clause-kept : goal.returns-in_err-file-clause-kept
returns-in_err-file-clause-kept g c = keeps_all _ _ _ _ _
