-- The replies over bytes that were accepted.
use Rattle.std.proofs.Common.{◌≡◌, Err, rules}
use Rattle.bearoff_cli.proofs.StoppedRuns.{may_be_stopped}
use Rattle.bearoff_cli.proofs.ToldFaults.{first_asked}
use Rattle.bearoff_cli.proofs.act.answer_asked.Goals as goal

pub returns-clause-left : goal.returns-clause-left
returns-clause-left g c given read =
    may_be_stopped _ _ c.answer.result
    (rw c.taken_kind.ensures at (c.answer.ensures.left given read))

pub returns-in_err-kept-clause-fault : goal.returns-in_err-kept-clause-fault
returns-in_err-kept-clause-fault g c =
    let same : c.from_residual.result ≡ Err c.in_err-kept.field-0.0 =
    search rules in
    rw same (first_asked c.args.kind c.args.bytes.now _ c.in_err-kept.ensures.fault
    c.in_err-kept.ensures.wrong)
