use Rattle.std.proofs.Common.{◌*◌, ◌^◌, subst, sym}
use Rattle.std.specs.Int.{IsGcd}
use Rattle.fixed_fraction.specs.Ratios.{IsDivided}
use Rattle.fixed_fraction.proofs.CommonFactors.{divided_by_both, lowest_taken_out}
use Rattle.fixed_fraction.proofs.terms.without_common.Goals as goal

pub returns-clause-divided : goal.returns-clause-divided
returns-clause-divided c =
    let odd = c.without_threes-odd.ensures in
    let less = c.without_twos.ensures in
    subst
    (λ k. IsDivided c.args.terms.numerator (3 ^ c.args.terms.threes * 2 ^ c.args.terms.twos)
    c.without_twos.result.numerator (3 ^ k * 2 ^ c.without_twos.result.twos))
    (sym less.threes)
    (subst
    (λ s. IsDivided c.args.terms.numerator (3 ^ c.args.terms.threes * 2 ^ s)
    c.without_twos.result.numerator
    (3 ^ c.without_threes-odd.result.threes * 2 ^ c.without_twos.result.twos))
    odd.twos
    (divided_by_both _ _ _ _ _ _ _ odd.divided less.divided))

pub returns-clause-lowest : goal.returns-clause-lowest
returns-clause-lowest c =
    let odd = c.without_threes-odd.ensures in
    let less = c.without_twos.ensures in
    subst
    (λ k. IsGcd c.without_twos.result.numerator (3 ^ k * 2 ^ c.without_twos.result.twos) 1)
    (sym less.threes)
    (lowest_taken_out _ _ _ _ _ _ odd.apart less.divided less.apart)
