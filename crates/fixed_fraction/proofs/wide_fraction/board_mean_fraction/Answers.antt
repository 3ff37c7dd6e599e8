-- A mean whose lower part is 0 is over 36 ^ 22, and any is over 36 ^ 33.
use Rattle.std.proofs.Common.{arith}
use Rattle.race_model.specs.Prelude.{whole}
use Rattle.fixed_fraction.specs.Board.{board_whole}
use Rattle.fixed_fraction.proofs.Fractions.{fraction_is, over_board, whole_of_board}
use Rattle.fixed_fraction.proofs.wide_fraction.board_mean_fraction.Goals as goal

pub returns-in-Some : goal.returns-in-Some
returns-in-Some c =
    over_board c.in-Some.rolls whole c.args.rolls board_whole _ _ _ _ c.in-Some.ensures.value
    whole_of_board c.mean.ensures.value c.of.ensures.numerator c.of.ensures.denominator

pub returns-in-None : goal.returns-in-None
returns-in-None c =
    let told = c.fraction_of.ensures in
    let mean = c.lowest_mean.ensures in
    fraction_is c.args.rolls board_whole _ _ _ _ (omega arith) mean.divided mean.lowest
    told.numerator told.denominator
