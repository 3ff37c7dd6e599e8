use Rattle.std.proofs.Common.{arith}
use Rattle.race_model.proofs.Ranks.PositionTotals.{count_to-most}
use Rattle.retrograde.proofs.in_room.build_board.Goals as goal

pub fill_board-requires-else-from-le-ROWS_TO_8-clause-offsets :
    goal.fill_board-requires-else-from-le-ROWS_TO_8-clause-offsets
fill_board-requires-else-from-le-ROWS_TO_8-clause-offsets c =
    omega (arith, c.in-Some.header.counted, count_to-most c.in-Some.header.bound)
