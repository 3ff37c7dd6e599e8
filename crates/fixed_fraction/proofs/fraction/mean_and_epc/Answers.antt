use Rattle.std.proofs.Common.{◌*◌, ◌^◌, ◌<◌, subst, arith}
use Rattle.race_model.specs.Prelude.{whole, IsFraction}
use Rattle.fixed_fraction.specs.Ratios.{IsDivided}
use Rattle.fixed_fraction.proofs.Fractions.{some_whole, some_six, within_divided, fraction_is}
use Rattle.fixed_fraction.proofs.Fractions.{mean_within, epc_within, numerator_fits, scaled_divided}
use Rattle.fixed_fraction.proofs.fraction.mean_and_epc.Goals as goal
use Rattle.fixed_fraction.proofs.fraction.mean_and_epc.Goals.{After-without_common-epc}

pub overflow_mul-mean : goal.overflow_mul-mean
overflow_mul-mean c =
    let few : 49 * c.lowest-mean.result.numerator < 2 ^ 128 =
    numerator_fits c.numerator.result _ _ c.numerator.ensures.range c.lowest-mean.ensures.divided in
    omega (arith, few)

-- the terms of the effective pip count are its, divided
pips_divided : (c : After-without_common-epc) → IsDivided (49 * c.numerator.result) (6 * whole)
    c.without_common-epc.result.numerator
    (3 ^ c.without_common-epc.result.threes * 2 ^ c.without_common-epc.result.twos)
pips_divided c =
    scaled_divided c.numerator.result whole c.lowest-mean.result.numerator
    c.lowest-mean.result.threes c.lowest-mean.result.twos _ _ c.lowest-mean.ensures.divided
    c.without_common-epc.ensures.divided

pub fraction_of-requires-clause-within : goal.fraction_of-requires-clause-within
fraction_of-requires-clause-within c =
    within_divided c.numerator.result whole _ _ some_whole
    (mean_within c.numerator.result c.numerator.ensures.range) c.lowest-mean.ensures.divided

pub fraction_of-requires-2-clause-within : goal.fraction_of-requires-2-clause-within
fraction_of-requires-2-clause-within c =
    within_divided (49 * c.numerator.result) (6 * whole) _ _ some_six
    (epc_within c.numerator.result c.numerator.ensures.range)
    (pips_divided (goal.at.fraction_of-requires-2-clause-within c).After-without_common-epc)

pub returns-clause-mean : goal.returns-clause-mean
returns-clause-mean c =
    let told = c.fraction_of.ensures in
    subst
    (λ r. IsFraction r whole c.fraction_of.result.numerator c.fraction_of.result.denominator)
    c.numerator.ensures.value
    (fraction_is c.numerator.result whole _ _ _ _ some_whole c.lowest-mean.ensures.divided
    c.lowest-mean.ensures.lowest told.numerator told.denominator)

pub returns-clause-epc : goal.returns-clause-epc
returns-clause-epc c =
    let told = c.fraction_of-2.ensures in
    let divided = pips_divided (goal.at.returns-clause-epc c).After-without_common-epc in
    subst
    (λ r. IsFraction (49 * r) (6 * whole) c.fraction_of-2.result.numerator
    c.fraction_of-2.result.denominator)
    c.numerator.ensures.value
    (fraction_is (49 * c.numerator.result) (6 * whole) _ _ _ _ some_six divided
    c.without_common-epc.ensures.lowest told.numerator told.denominator)
