use Rattle.race_model.specs.Prelude.{whole}
use Rattle.fixed_fraction.proofs.Fractions.{some_whole, within_divided, fraction_is}
use Rattle.fixed_fraction.proofs.fraction.reduced.Goals as goal

pub fraction_of-requires-clause-within : goal.fraction_of-requires-clause-within
fraction_of-requires-clause-within c =
    within_divided c.args.numerator whole _ _ some_whole c.requires c.lowest-lowest.ensures.divided

pub returns-clause-value : goal.returns-clause-value
returns-clause-value c =
    let told = c.fraction_of.ensures in
    fraction_is c.args.numerator whole _ _ _ _ some_whole c.lowest-lowest.ensures.divided
    c.lowest-lowest.ensures.lowest told.numerator told.denominator
