-- How much was read where the reads ran out.
use Rattle.bearoff_cli.proofs.StoppedRuns.{run_turns}
use Rattle.bearoff_cli.proofs.act.reply.Goals as goal

pub returns-in-Ok-clause-turns : goal.returns-in-Ok-clause-turns
returns-in-Ok-clause-turns g c =
    rw c.from.ensures (run_turns _ _ c.handed_on.result (λ given told.
    c.handed_on.ensures.used 1099511627776 given _ (c.in-Err-run.ensures.used given told)))
