use Rattle.std.proofs.Common.{arith}
use Rattle.fixed_fraction.specs.Board.{board_whole}
use Rattle.query_text.proofs.Thousandths.{same_thousandths}
use Rattle.epc_query.proofs.opened.Rounded.rolls.Goals as goal

pub returns-clause-rounded : goal.returns-clause-rounded
returns-clause-rounded c =
    let rolls = c.board_mean_fraction.result in
    let is = c.board_mean_fraction.ensures in
    same_thousandths c.args.mean board_whole rolls.numerator rolls.denominator
    c.thousandths.result is.same (omega arith) is.positive c.thousandths.ensures
