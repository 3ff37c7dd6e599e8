-- An accepted header counts the ranks of at most 58 pips.
use Rattle.std.proofs.Common.{◌<◌, arith}
use Rattle.race_model.specs.Prelude.{count_to}
use Rattle.race_model.proofs.Ranks.RankOrder.{count_to-rises}
use Rattle.race_model.proofs.Ranks.PositionTotals.{count_to-58, twenty_five_levels}
use Rattle.db_layout.proofs.Bounds.{bound-most}
use Rattle.certificate.proofs.checker.check_records.Goals as goal

pub check_with_room-requires-else-count-le-ROOM_TO_44-clause-room :
    goal.check_with_room-requires-else-count-le-ROOM_TO_44-clause-room
check_with_room-requires-else-count-le-ROOM_TO_44-clause-room g c =
    let header = c.in-Ok.header in
    omega (
      arith,
      header.counted,
      count_to-rises header.bound 58 (bound-most header),
      count_to-58,
    )

pub check_with_room-requires-else-count-le-ROOM_TO_44-clause-near :
    goal.check_with_room-requires-else-count-le-ROOM_TO_44-clause-near
check_with_room-requires-else-count-le-ROOM_TO_44-clause-near g c r lt z at near =
    let header = c.in-Ok.header in
    let all : r < count_to 58 =
    omega (arith, header.counted, count_to-rises header.bound 58 (bound-most header)) in
    twenty_five_levels r z at all near
