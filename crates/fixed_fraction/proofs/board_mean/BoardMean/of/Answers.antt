use Rattle.std.proofs.Common.{arith}
use Rattle.fixed_fraction.proofs.Fractions.{whole_of_board}
use Rattle.fixed_fraction.proofs.board_mean.BoardMean.of.Goals as goal

pub of_parts-requires-clause-most : goal.of_parts-requires-clause-most
of_parts-requires-clause-most c = omega (arith, c.numerator.ensures.range, whole_of_board)
