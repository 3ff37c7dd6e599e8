use Rattle.std.proofs.Common.{◌*◌, arith}
use Rattle.fixed_fraction.specs.Board.{board_whole}
use Rattle.query_text.proofs.Thousandths.{same_thousandths}
use Rattle.epc_query.proofs.opened.Rounded.epc.Goals as goal

pub returns-clause-rounded : goal.returns-clause-rounded
returns-clause-rounded c =
    let pips = c.board_mean_and_epc.result.1 in
    let epc = c.board_mean_and_epc.ensures.epc in
    same_thousandths (49 * c.args.mean) (6 * board_whole) pips.numerator pips.denominator
    c.effective_thousandths.result epc.same (omega arith) epc.positive
    c.effective_thousandths.ensures
