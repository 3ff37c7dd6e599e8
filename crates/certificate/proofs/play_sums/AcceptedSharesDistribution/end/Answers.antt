use Rattle.std.proofs.Common.{arith}
use Rattle.certificate.proofs.PlaySums.{told_by-none, length-told_by}
use Rattle.certificate.proofs.play_sums.AcceptedSharesDistribution.end.Goals as goal

pub returns-clause-none : goal.returns-clause-none
returns-clause-none c k past =
    told_by-none c.args.self.stored k
    (λ few. c.end.ensures.none k (omega (arith, past, c.end.ensures.value)) few)

pub returns-clause-len : goal.returns-clause-len
returns-clause-len c = length-told_by c.args.self.stored
