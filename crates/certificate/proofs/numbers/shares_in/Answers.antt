use Rattle.std.proofs.Common.{arith}
use Rattle.certificate.proofs.RecordBytes.{are_shares}
use Rattle.certificate.proofs.numbers.shares_in.Goals as goal

pub returns : goal.returns
returns c =
    are_shares c.loop-k.shares c.args.view.now c.loop-k.invariant.len
    (λ j lt. c.loop-k.invariant.read j (omega (arith, c.loop-k-test.false)))
