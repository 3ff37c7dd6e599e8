use Rattle.std.proofs.Common.{◌+◌, ◌*◌, ◌^◌, ◌<◌, ◌≤◌, ◌/◌, length, sum_by, take, arith}
use Rattle.std.proofs.lemmas.List.{take_all}
use Rattle.std.proofs.lemmas.List.Sums.{sum_by_more}
use Rattle.race_model.specs.Prelude.{whole}
use Rattle.fixed_fraction.proofs.Shares.{next_small, sum_fits, whole_is}
use Rattle.fixed_fraction.proofs.scaled.pull.Goals as goal

pub loop-weight-init : goal.loop-weight-init
loop-weight-init c = record { total = omega (arith, whole_is); small = omega (arith, whole_is) }

-- the sum with the next part is within the bound by the weights
bounded : (c : goal.After-numerator) →
    c.loop-weight.total + c.from.result * c.numerator.result
    ≤ 36 * whole
    + sum_by (λ part. part.0) (take (c.loop-weight.weight-index + 1) c.args.parts.now)
    * (22 * whole)
bounded c =
    rw c.from.ensures
    (next_small c.args.parts.now c.loop-weight.weight-index c.loop-weight-item.result (omega arith)
    c.loop-weight.total c.numerator.result (22 * whole) (36 * whole)
    c.numerator.ensures.range c.loop-weight.invariant.small)

-- the sum with the next part fits 128 bits
fits : (c : goal.After-numerator) →
    c.loop-weight.total + c.from.result * c.numerator.result < 2 ^ 128
fits c =
    sum_fits c.args.parts.now c.loop-weight.weight-index c.loop-weight-item.result (omega arith) _
    c.requires (bounded c)

pub overflow_mul-total-in-loop-weight : goal.overflow_mul-total-in-loop-weight
overflow_mul-total-in-loop-weight c =
    let small = fits c in
    omega arith

pub overflow_add-total : goal.overflow_add-total
overflow_add-total c =
    let small = fits c in
    omega arith

pub loop-weight-preserved : goal.loop-weight-preserved
loop-weight-preserved c =
    let lt : c.loop-weight.weight-index < length c.args.parts.now = omega arith in
    let more =
    sum_by_more (λ part. part.0 * part.1) c.args.parts.now c.loop-weight.weight-index
    c.loop-weight-item.result lt in
    record {
      total =
          rw (more, c.from.ensures, c.numerator.ensures.value)
          (omega (arith, c.loop-weight.invariant.total));
      small = bounded c;
    }

pub returns-then-total-eq0-clause-some : goal.returns-then-total-eq0-clause-some
returns-then-total-eq0-clause-some c =
    let all = take_all c.loop-weight.weight-index c.args.parts.now (omega arith) in
    let total = rw all at c.loop-weight.invariant.total in (
      λ is. (c.loop-weight.total / 36, c.new.ensures.some.0 is, omega arith),
      λ w. c.new.ensures.some.1 (omega (arith, w.1, w.2)),
    )
