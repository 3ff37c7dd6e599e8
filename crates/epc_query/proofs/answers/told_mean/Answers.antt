-- A mean whose lower part is 0 is over 36 ^ 22, and any is over 36 ^ 33.
use Rattle.std.proofs.Common.{◌*◌, sym, subst₂, ◌∙◌, arith}
use Rattle.race_model.specs.Prelude.{IsThousandths, whole}
use Rattle.fixed_fraction.specs.Board.{board_whole}
use Rattle.fixed_fraction.proofs.Fractions.{over_board, whole_of_board}
use Rattle.query_text.proofs.Thousandths.{same_thousandths}
use Rattle.epc_query.proofs.answers.told_mean.Goals as goal

pub returns-in-Some-clause-mean : goal.returns-in-Some-clause-mean
returns-in-Some-clause-mean c =
    over_board c.in-Some.short whole c.args.mean board_whole _ _ _ _ c.in-Some.ensures.value
    whole_of_board c.mean_and_epc-rolls.ensures.mean c.of.ensures.numerator
    c.of.ensures.denominator

pub returns-in-Some-clause-epc : goal.returns-in-Some-clause-epc
returns-in-Some-clause-epc c =
    over_board (49 * c.in-Some.short) (6 * whole) (49 * c.args.mean) (6 * board_whole) _ _ _ _
    (omega (arith, c.in-Some.ensures.value)) (omega (arith, whole_of_board))
    c.mean_and_epc-rolls.ensures.epc c.of-in-Some.ensures.numerator
    c.of-in-Some.ensures.denominator

pub returns-in-Some-clause-thousandths : goal.returns-in-Some-clause-thousandths
returns-in-Some-clause-thousandths c =
    subst₂ (λ n d. IsThousandths n d c.thousandths_of-told.result)
    (c.numerator.ensures.value ∙ sym c.of-in-Some.ensures.numerator)
    (c.denominator.ensures.value ∙ sym c.of-in-Some.ensures.denominator)
    c.thousandths_of-told.ensures

pub returns-clause-thousandths : goal.returns-clause-thousandths
returns-clause-thousandths c =
    let pips = c.board_mean_and_epc-rolls.result.1 in
    let epc = c.board_mean_and_epc-rolls.ensures.epc in
    same_thousandths (49 * c.args.mean) (6 * board_whole) pips.numerator pips.denominator
    c.effective_thousandths.result epc.same (omega arith) epc.positive
    c.effective_thousandths.ensures
