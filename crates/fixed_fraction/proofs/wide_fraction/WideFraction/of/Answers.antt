-- A small ratio is in lowest terms.
use Rattle.std.proofs.Common.{◌∙◌}
use Rattle.fixed_fraction.proofs.wide_fraction.WideFraction.of.Goals as goal

pub invariant_of-result : goal.invariant_of-result
invariant_of-result c =
    let ratio = c.numerator.ensures.ratio in
    let numerator = c.of.ensures ∙ c.numerator.ensures.value in
    let denominator = c.of-2.ensures ∙ c.denominator.ensures.value in
    rw (numerator, denominator) (ratio.positive, ratio.lowest)
