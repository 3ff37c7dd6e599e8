use Rattle.fixed_fraction.proofs.CommonFactors.{divided_over_whole}
use Rattle.fixed_fraction.proofs.terms.lowest.Goals as goal

pub returns-clause-divided : goal.returns-clause-divided
returns-clause-divided c =
    let powers = c.without_powers.ensures in
    divided_over_whole _ _ _ _ _ _ powers.twos powers.divided c.without_common.ensures.divided
