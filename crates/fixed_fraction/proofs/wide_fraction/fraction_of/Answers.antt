-- The denominator is the product of the powers.
use Rattle.std.proofs.Common.{◌*◌, ◌^◌, ◌<◌, ap, ◌∙◌, subst, sym}
use Rattle.std.specs.Int.{IsGcd}
use Rattle.fixed_fraction.proofs.Fractions.{some_product}
use Rattle.fixed_fraction.proofs.WideNumbers.{powers_fit}
use Rattle.fixed_fraction.proofs.wide_fraction.fraction_of.Goals as goal

pub doubled-requires-clause-room : goal.doubled-requires-clause-room
doubled-requires-clause-room c =
    rw c.power_of_three.ensures
    (powers_fit c.args.terms.threes c.args.terms.twos c.requires.threes c.requires.twos)

pub invariant_of-result : goal.invariant_of-result
invariant_of-result c =
    subst (λ d. (0 < d) × IsGcd c.args.terms.numerator d 1)
    (sym (c.doubled.ensures ∙ ap (λ n. n * 2 ^ c.args.terms.twos) c.power_of_three.ensures))
    (some_product c.args.terms.threes c.args.terms.twos, c.requires.lowest)
