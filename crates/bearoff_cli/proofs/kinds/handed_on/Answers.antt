-- A flush that fails leaves a part of the replies.
use Rattle.bearoff_cli.proofs.StoppedRuns.{failed_end}
use Rattle.bearoff_cli.proofs.kinds.handed_on.Goals as goal

pub returns-in-Err-clause-stopped : goal.returns-in-Err-clause-stopped
returns-in-Err-clause-stopped g c file given left old stopped =
    failed_end file given left old _ _ c.args.cause stopped c.in-Err.ensures.bytes
