-- The replies over bytes that were accepted.
use Rattle.bearoff_cli.proofs.StoppedRuns.{run_answer, run_turns}
use Rattle.epc_query.specs.Kinds.{book_as}
use Rattle.bearoff_cli.proofs.kinds.answer.Goals as goal

pub returns-in-Err-clause-left : goal.returns-in-Err-clause-left
returns-in-Err-clause-left g c given read = record {
  right = c.requires.right;
  cause = c.handed_on.result;
  fault_is = c.from.ensures;
  stopped = c.handed_on.ensures.stopped (book_as c.args.kind c.args.bytes.now) given _ _
      (c.in-Err.ensures.stopped given read);
}

pub returns-in-Err-clause-cause : goal.returns-in-Err-clause-cause
returns-in-Err-clause-cause g c = rw c.from.ensures (run_answer c.handed_on.result)

pub returns-in-Err-clause-turns : goal.returns-in-Err-clause-turns
returns-in-Err-clause-turns g c =
    rw c.from.ensures (run_turns _ _ c.handed_on.result (λ given told.
    c.handed_on.ensures.used 1099511627776 given _ (c.in-Err.ensures.used given told)))
