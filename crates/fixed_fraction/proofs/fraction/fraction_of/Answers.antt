use Rattle.std.proofs.Common.{◌≡◌, ◌*◌, ◌%◌, ◌^◌, subst, sym, ap, ◌∙◌}
use Rattle.fixed_fraction.specs.Ratios.{IsSmallRatio}
use Rattle.fixed_fraction.proofs.Fractions.{no_bit_lost, small_ratio}
use Rattle.fixed_fraction.proofs.fraction.fraction_of.Goals as goal
use Rattle.fixed_fraction.proofs.fraction.fraction_of.Goals.{After-power_of_three}

-- the denominator is the product
product : (c : After-power_of_three) → c.power_of_three.result * 2 ^ c.args.terms.twos % 2 ^ 128
    ≡ 3 ^ c.args.terms.threes * 2 ^ c.args.terms.twos
product c =
    ap (λ p. p * 2 ^ c.args.terms.twos % 2 ^ 128) c.power_of_three.ensures
    ∙ no_bit_lost c.args.terms.threes c.args.terms.twos c.requires.threes c.requires.twos

-- the ratio is small, since the denominator is the product
small : (c : After-power_of_three) → IsSmallRatio (record {
  numerator = c.args.terms.numerator;
  denominator = c.power_of_three.result * 2 ^ c.args.terms.twos % 2 ^ 128;
})
small c =
    subst (λ d. IsSmallRatio (record { numerator = c.args.terms.numerator; denominator = d }))
    (sym (product c))
    (small_ratio c.args.terms.numerator c.args.terms.threes c.args.terms.twos c.requires.threes
    c.requires.twos c.requires.within c.requires.lowest)

pub invariant_of-result : goal.invariant_of-result
invariant_of-result c = small (goal.at.invariant_of-result c).After-power_of_three

pub returns-clause-denominator : goal.returns-clause-denominator
returns-clause-denominator c =
    product (goal.at.returns-clause-denominator c).After-power_of_three

pub returns-clause-ratio : goal.returns-clause-ratio
returns-clause-ratio c = small (goal.at.returns-clause-ratio c).After-power_of_three
