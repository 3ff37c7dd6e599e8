use Rattle.fixed_fraction.proofs.CommonFactors.{divided_by_both, lowest_taken_out}
use Rattle.fixed_fraction.proofs.wide_fraction.lowest.Goals as goal

pub returns-then-high-eq0-clause-lowest : goal.returns-then-high-eq0-clause-lowest
returns-then-high-eq0-clause-lowest c = rw c.of.ensures c.without_common-less.ensures.lowest

pub returns-clause-divided : goal.returns-clause-divided
returns-clause-divided c =
    divided_by_both _ _ _ _ _ _ _ c.without-threes.ensures.divided c.without-twos.ensures.divided

pub returns-clause-lowest : goal.returns-clause-lowest
returns-clause-lowest c =
    lowest_taken_out _ _ _ _ _ _ c.without-threes.ensures.apart c.without-twos.ensures.divided
    c.without-twos.ensures.apart
