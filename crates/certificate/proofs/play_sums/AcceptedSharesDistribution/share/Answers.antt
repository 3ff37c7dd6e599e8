use Rattle.std.proofs.Common.{sym, ◌∙◌, arith}
use Rattle.certificate.proofs.PlaySums.{get_or-told_by}
use Rattle.certificate.proofs.play_sums.AcceptedSharesDistribution.share.Goals as goal

pub returns : goal.returns
returns c =
    c.at.ensures ∙ sym (get_or-told_by c.args.self.stored c.args.k (omega (arith, c.requires.few)))
