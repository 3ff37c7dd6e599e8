use Rattle.std.proofs.Common.{◌+◌, ◌-◌, ◌/◌, ◌≤◌, ⊎_elim, sym, ◌∙◌, arith}
use Rattle.std.proofs.lemmas.Bool.{false≢true, cases_lt}
use Rattle.fixed_fraction.proofs.Fractions.{multiple_fits, rounds_below, rounds_above, rounds_within, rounded}
use Rattle.fixed_fraction.proofs.wide_fraction.wide_thousandths_of.Goals as goal
use Rattle.fixed_fraction.proofs.wide_fraction.wide_thousandths_of.Goals.{Else-is_less}

pub loop-over-init : goal.loop-over-init
loop-over-init c = record {
  reached = omega arith;
  missed = rounds_within c.args.numerator c.args.denominator c.times-total.result
      c.times-total.ensures c.requires.positive c.requires.within;
  apart = omega arith;
  most = omega arith;
}

pub overflow_sub-over : goal.overflow_sub-over
overflow_sub-over c = omega (arith, c.loop-over.invariant.apart)

pub overflow_mul-middle : goal.overflow_mul-middle
overflow_mul-middle c = omega (
  arith,
  c.loop-over.invariant.apart,
  c.loop-over.invariant.most,
  c.loop-over-test.true,
)

pub times-requires : goal.times-requires
times-requires c =
    multiple_fits c.args.denominator
    (c.loop-over.least + (c.loop-over.over - c.loop-over.least) / 2) c.requires.short
    (omega (
      arith,
      c.loop-over.invariant.apart,
      c.loop-over.invariant.most,
      c.loop-over-test.true,
    ))

pub loop-over-smaller-then-is_less : goal.loop-over-smaller-then-is_less
loop-over-smaller-then-is_less c = omega (
  arith,
  c.loop-over.invariant.apart,
  c.loop-over-test.true,
)

pub loop-over-preserved-then-is_less : goal.loop-over-preserved-then-is_less
loop-over-preserved-then-is_less c = record {
  reached = c.loop-over.invariant.reached;
  missed = rounds_below c.times-total.result c.args.denominator
      (c.loop-over.least + (c.loop-over.over - c.loop-over.least) / 2)
      (omega (arith, c.loop-over.invariant.apart, c.loop-over-test.true))
      (omega (arith, c.is_less.ensures.0 c.if-is_less.true, c.times.ensures));
  apart = omega (arith, c.loop-over.invariant.apart, c.loop-over-test.true);
  most = omega (arith, c.loop-over.invariant.most, c.loop-over.invariant.apart);
}

pub loop-over-smaller : goal.loop-over-smaller
loop-over-smaller c = omega (arith, c.loop-over.invariant.apart, c.loop-over-test.true)

-- the odd multiple of the middle is within the total
within : (c : Else-is_less) → c.times.result ≤ c.times-total.result
within c = ⊎_elim
    (λ less. absurd (false≢true (sym c.if-is_less.false ∙ c.is_less.ensures.1 less)))
    (λ within. within)
    (cases_lt c.times-total.result c.times.result)

pub loop-over-preserved : goal.loop-over-preserved
loop-over-preserved c = record {
  reached = rounds_above c.times-total.result c.args.denominator
      (c.loop-over.least + (c.loop-over.over - c.loop-over.least) / 2)
      (omega (arith, c.loop-over.invariant.apart, c.loop-over-test.true))
      (omega (arith, within c, c.times.ensures));
  missed = c.loop-over.invariant.missed;
  apart = omega (arith, c.loop-over.invariant.apart, c.loop-over-test.true);
  most = c.loop-over.invariant.most;
}

pub returns : goal.returns
returns c = rw (c.from.ensures) (rounded c.args.numerator c.args.denominator
    c.times-total.result c.loop-over.least c.loop-over.over c.times-total.ensures
    c.loop-over.invariant.reached c.loop-over.invariant.missed
    (omega (arith, c.loop-over.invariant.apart, c.loop-over-test.false)))
