-- One of the shares in the bytes.
use Rattle.std.proofs.Common.{◌*◌, sym, ap, ◌∙◌, arith}
use Rattle.std.specs.Int.{w128, from_le_bytes}
use Rattle.race_model.specs.Prelude.{bytes_at}
use Rattle.retrograde.proofs.KeptShares.{share-in}
use Rattle.retrograde.proofs.kept_shares.KeptSpreadDistribution.share.Goals as goal

pub returns : goal.returns
returns c =
    c.read_low.ensures
    ∙ ap (λ k. from_le_bytes w128 (bytes_at c.args.self.bytes.now (16 * k) 16)) c.from.ensures
    ∙ sym (share-in c.args.self.bytes.now c.args.k
    (omega (arith, c.requires.stored, c.requires.few)))
