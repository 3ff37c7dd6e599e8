use Rattle.std.proofs.Common.{◌≤◌, arith}
use Rattle.race_model.specs.Prelude.{pips}
use Rattle.race_model.proofs.Ranks.RankOrder.{rank_bound}
use Rattle.certificate.proofs.checked.load.Goals as goal

pub load-requires : goal.load-requires
load-requires g c =
    let x = c.args.position.now in
    let low : pips x ≤ c.args.header.bound = omega (
      arith,
      c.pips.ensures.value,
      c.if-pips-header.false,
    ) in
    let under = (rank_bound x c.args.header.bound c.pips.ensures.position).1 low in
    rw c.requires.header_is (omega (
      arith,
      under,
      c.rank-rank.ensures.value,
      c.args.header.counted,
    ))
