-- A file that was written to its end is the old or the new one.
use Rattle.bearoff_cli.proofs.KeptFiles.{kept_ended}
use Rattle.bearoff_cli.proofs.files.finish_file.Goals as goal

pub returns-in-Ok-finish-clause-kept : goal.returns-in-Ok-finish-clause-kept
returns-in-Ok-finish-clause-kept g c = rw c.in-Ok.is (kept_ended _ c.args.draft.names _ _ _
    c.finish.result c.finish.ensures.put)

pub returns-in-Err-finish-clause-kept : goal.returns-in-Err-finish-clause-kept
returns-in-Err-finish-clause-kept g c = rw c.in-Ok.is (kept_ended _ c.args.draft.names _ _ _
    c.finish.result c.finish.ensures.put)

pub returns-in-Ok-finish-clause-gone : goal.returns-in-Ok-finish-clause-gone
returns-in-Ok-finish-clause-gone g c = rw c.in-Ok.is c.finish.ensures.gone

pub returns-in-Err-finish-clause-gone : goal.returns-in-Err-finish-clause-gone
returns-in-Err-finish-clause-gone g c = rw c.in-Ok.is c.finish.ensures.gone
