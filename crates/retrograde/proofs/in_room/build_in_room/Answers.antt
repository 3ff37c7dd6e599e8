use Rattle.std.proofs.Common.{arith}
use Rattle.race_model.proofs.Ranks.RankOrder.{count_to-rises}
use Rattle.race_model.proofs.Ranks.PositionTotals.{count_to-58}
use Rattle.db_layout.proofs.Bounds.{bound-most}
use Rattle.retrograde.proofs.in_room.build_in_room.Goals as goal

pub fill-requires-else-from-le-ROWS_TO_8-clause-places :
    goal.fill-requires-else-from-le-ROWS_TO_8-clause-places
fill-requires-else-from-le-ROWS_TO_8-clause-places c =
    let header = c.args.header.now in
    omega (
      arith,
      header.counted,
      count_to-rises header.bound 58 (bound-most header),
      count_to-58,
    )
