use Rattle.fixed_fraction.proofs.CommonFactors.{divided_twice}
use Rattle.fixed_fraction.proofs.terms.without_powers.Goals as goal

pub returns-clause-divided : goal.returns-clause-divided
returns-clause-divided c =
    divided_twice _ _ _ _ _ _ c.without-less.ensures.divided
    (divided_twice _ _ _ _ _ _ c.without-less-2.ensures.divided
    (divided_twice _ _ _ _ _ _ c.without-less-3.ensures.divided
    (divided_twice _ _ _ _ _ _ c.without-less-4.ensures.divided c.without.ensures.divided)))
