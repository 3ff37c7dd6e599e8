-- A mean whose lower part is 0 is over 36 ^ 22, and any is over 36 ^ 33.
use Rattle.std.proofs.Common.{◌≡◌, ◌+◌, ◌*◌, ◌^◌, subst, arith}
use Rattle.race_model.specs.Prelude.{whole}
use Rattle.fixed_fraction.specs.Board.{board_whole}
use Rattle.fixed_fraction.specs.Ratios.{IsDivided}
use Rattle.fixed_fraction.proofs.Fractions.{fraction_is, over_board, scaled_divided, whole_of_board}
use Rattle.fixed_fraction.proofs.wide_fraction.board_mean_and_epc.Goals as goal

pub returns-in-Some-clause-mean : goal.returns-in-Some-clause-mean
returns-in-Some-clause-mean c =
    over_board c.in-Some.rolls whole c.args.mean board_whole _ _ _ _ c.in-Some.ensures.value
    whole_of_board c.mean_and_epc.ensures.mean c.of.ensures.numerator
    c.of.ensures.denominator

pub returns-in-Some-clause-epc : goal.returns-in-Some-clause-epc
returns-in-Some-clause-epc c =
    over_board (49 * c.in-Some.rolls) (6 * whole) (49 * c.args.mean) (6 * board_whole) _ _ _ _
    (omega (arith, c.in-Some.ensures.value)) (omega (arith, whole_of_board))
    c.mean_and_epc.ensures.epc c.of-in-Some.ensures.numerator c.of-in-Some.ensures.denominator

pub returns-clause-mean : goal.returns-clause-mean
returns-clause-mean c =
    let told = c.fraction_of.ensures in
    let mean = c.lowest_mean-lowest_mean.ensures in
    fraction_is c.args.mean board_whole _ _ _ _ (omega arith) mean.divided mean.lowest
    told.numerator told.denominator

pub returns-clause-epc : goal.returns-clause-epc
returns-clause-epc c =
    let told = c.fraction_of-2.ensures in
    let mean = c.lowest_mean-lowest_mean in
    let epc = c.lowest-lowest_epc in
    let turned : c.times.result ≡ 49 * mean.result.numerator = omega (arith, c.times.ensures) in
    let divided = scaled_divided c.args.mean board_whole mean.result.numerator mean.result.threes
    mean.result.twos _ _ mean.ensures.divided
    (subst
    (λ n. IsDivided n (3 ^ (mean.result.threes + 1) * 2 ^ (mean.result.twos + 1))
    epc.result.numerator (3 ^ epc.result.threes * 2 ^ epc.result.twos))
    turned epc.ensures.divided) in
    fraction_is (49 * c.args.mean) (6 * board_whole) _ _ _ _ (omega arith) divided
    epc.ensures.lowest told.numerator told.denominator
