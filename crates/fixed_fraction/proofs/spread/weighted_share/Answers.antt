use Rattle.std.proofs.Common.{◌+◌, ◌*◌, ◌^◌, ◌<◌, ◌≤◌, length, sum_by, take, get_or, arith}
use Rattle.std.proofs.lemmas.List.Sums.{sum_by_more}
use Rattle.race_model.specs.Prelude.{whole}
use Rattle.fixed_fraction.proofs.Shares.{next_small, sum_fits, share_at_most_sum}
use Rattle.fixed_fraction.proofs.spread.weighted_share.Goals as goal

-- the sum with the next part is within the bound by the weights
bounded : (c : goal.After-at) →
    c.loop-weight.total + c.from.result * c.at.result
    ≤ 0
    + sum_by (λ part. part.0) (take (c.loop-weight.weight-index + 1) c.args.parts.now)
    * whole
bounded c =
    let one =
    share_at_most_sum
    (get_or c.args.parts.now c.loop-weight.weight-index c.loop-weight-item.result).1
    c.args.k in
    rw c.from.ensures
    (next_small c.args.parts.now c.loop-weight.weight-index c.loop-weight-item.result (omega arith)
    c.loop-weight.total c.at.result whole 0
    (omega (arith, one, c.at.ensures.value, c.at.ensures.total))
    (omega (arith, c.loop-weight.invariant.small)))

-- the sum with the next part fits 128 bits
fits : (c : goal.After-at) → c.loop-weight.total + c.from.result * c.at.result < 2 ^ 128
fits c =
    sum_fits c.args.parts.now c.loop-weight.weight-index c.loop-weight-item.result (omega arith) _
    c.requires (omega (arith, bounded c))

pub overflow_mul-total : goal.overflow_mul-total
overflow_mul-total c =
    let small = fits c in omega arith

pub overflow_add-total : goal.overflow_add-total
overflow_add-total c =
    let small = fits c in omega arith

pub loop-weight-preserved : goal.loop-weight-preserved
loop-weight-preserved c =
    let lt : c.loop-weight.weight-index < length c.args.parts.now = omega arith in
    let more =
    sum_by_more (λ part. part.0 * get_or part.1 c.args.k 0) c.args.parts.now
    c.loop-weight.weight-index c.loop-weight-item.result lt in
    record {
      total =
          rw (more, c.from.ensures, c.at.ensures.value)
          (omega (arith, c.loop-weight.invariant.total));
      small = omega (arith, bounded c);
    }
