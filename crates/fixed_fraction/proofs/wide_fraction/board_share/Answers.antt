use Rattle.std.proofs.Common.{arith}
use Rattle.fixed_fraction.specs.Board.{board_whole}
use Rattle.fixed_fraction.proofs.CommonFactors.{divided_twice}
use Rattle.fixed_fraction.proofs.Fractions.{fraction_is}
use Rattle.fixed_fraction.proofs.TwoParts.{share_divided}
use Rattle.fixed_fraction.proofs.wide_fraction.board_share.Goals as goal

pub returns : goal.returns
returns c =
    let told = c.fraction_of.ensures in
    fraction_is _ board_whole _ _ _ _ (omega arith)
    (divided_twice _ _ _ _ _ _ (share_divided c.args.count c.args.k c.requires)
    (rw (c.number.ensures, c.from-factors.ensures) at c.lowest.ensures.divided))
    c.lowest.ensures.lowest told.numerator told.denominator
