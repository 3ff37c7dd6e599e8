-- There is no share beyond the bytes.
use Rattle.std.proofs.Common.{arith}
use Rattle.retrograde.proofs.KeptShares.{share-past, length-shares_in}
use Rattle.retrograde.proofs.kept_shares.KeptSpreadDistribution.end.Goals as goal

pub returns-clause-none : goal.returns-clause-none
returns-clause-none c k past =
    share-past c.args.self.bytes.now k (omega (arith, past, c.args.self.parts))

pub returns-clause-len : goal.returns-clause-len
returns-clause-len c = length-shares_in c.args.self.bytes.now
