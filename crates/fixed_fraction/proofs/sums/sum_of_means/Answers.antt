use Rattle.std.proofs.Common.{◌≡◌, ◌+◌, ◌*◌, ◌≤◌, get_or, sum_by, take, ◌∙◌, arith}
use Rattle.std.proofs.lemmas.Grind.{get_or_default_zero}
use Rattle.race_model.specs.Prelude.{all_rolls, roll_index, weight, whole}
use Rattle.fixed_fraction.proofs.RollSums.{roll-added, roll-bound, rolls-fit, rolls-done, rolls-bound}
use Rattle.fixed_fraction.proofs.RollSums.{weights-by_index}
use Rattle.fixed_fraction.proofs.sums.sum_of_means.Goals as goal

-- the mean of the next roll
next : (c : goal.After-numerator) →
    c.numerator.result ≡ get_or c.args.means.now c.loop-index.index 0
next c =
    c.numerator.ensures.value
    ∙ get_or_default_zero c.args.means.now c.loop-index.index c.index-means-index.result
    (omega (arith, c.told-means, c.loop-index-test.true))

-- the sum with the next roll is within the bound by the weights
bounded : (c : goal.After-numerator) →
    c.loop-index.total + c.from.result * c.numerator.result
    ≤ sum_by weight (take (c.loop-index.index + 1) all_rolls) * (22 * whole)
bounded c =
    roll-bound (λ r. get_or c.args.means.now r 0) c.loop-index.index c.numerator.result
    c.from.result c.loop-index.total (22 * whole) c.loop-index-test.true (next c)
    c.numerator.ensures.range
    (c.from.ensures ∙ weights-by_index c.loop-index.index c.loop-index-test.true)
    c.loop-index.invariant.total c.loop-index.invariant.small

pub overflow_add-total : goal.overflow_add-total
overflow_add-total c =
    let fits = rolls-fit c.loop-index.index _ c.loop-index-test.true (bounded c) in omega arith

pub loop-index-preserved : goal.loop-index-preserved
loop-index-preserved c = record {
  total =
      roll-added (λ r. get_or c.args.means.now r 0) c.loop-index.index c.numerator.result
      c.from.result c.loop-index.total (22 * whole) c.loop-index-test.true (next c)
      c.numerator.ensures.range
      (c.from.ensures ∙ weights-by_index c.loop-index.index c.loop-index-test.true)
      c.loop-index.invariant.total c.loop-index.invariant.small;
  small = bounded c;
}

pub returns-clause-value : goal.returns-clause-value
returns-clause-value c =
    rolls-done (λ v. weight v * get_or c.args.means.now (roll_index v) 0) c.loop-index.index
    c.loop-index.total (omega (arith, c.loop-index-test.false)) c.loop-index.invariant.total

pub returns-clause-bound : goal.returns-clause-bound
returns-clause-bound c =
    rolls-bound c.loop-index.index c.loop-index.total (22 * whole)
    (omega (arith, c.loop-index-test.false)) c.loop-index.invariant.small
