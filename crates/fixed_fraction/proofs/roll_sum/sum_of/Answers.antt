use Rattle.std.proofs.Common.{◌*◌, ◌<◌, length, map, get_or, sym, ap, ◌∙◌, arith}
use Rattle.std.proofs.lemmas.List.{get_or-map}
use Rattle.race_model.specs.Prelude.{roll_index, weight}
use Rattle.race_model.proofs.Dice.RollSums.{sum_by-weight}
use Rattle.fixed_fraction.specs.Board.{WeightedSum}
use Rattle.fixed_fraction.proofs.RollSums.{roll-more, roll-next, rolls-done}
use Rattle.fixed_fraction.proofs.RollSums.{weights-by_index, weights-within}
use Rattle.fixed_fraction.proofs.roll_sum.sum_of.Goals as goal

pub loop-index-init : goal.loop-index-init
loop-index-init g c = record {
  weights = ap (λ (s : WeightedSum). s.weight) c.none-total.ensures;
  so_far = ap (λ (s : WeightedSum). s.sum) c.none-total.ensures;
}

pub plus-total-requires : goal.plus-total-requires
plus-total-requires g c = omega (
  arith,
  c.loop-index.invariant.weights,
  weights-by_index c.loop-index.index c.loop-index-test.true,
  weights-within c.loop-index.index c.loop-index-test.true,
)

pub loop-index-preserved : goal.loop-index-preserved
loop-index-preserved g c =
    let value = g.N.Summand.value in
    let xs = c.args.numbers.now in
    let i = c.loop-index.index in
    let lt = c.loop-index-test.true in
    let d = c.index-numbers-index.result in
    let place : i < length xs = omega (arith, c.told-numbers, lt) in
    let weighs = weights-by_index i lt in
    rw c.plus-total.ensures record {
      weights = omega (arith, c.loop-index.invariant.weights, weighs, roll-more weight i lt);
      so_far =
          roll-next (λ r. get_or (map value xs) r 0) i (value (get_or xs i d)) _ _ lt
          (sym (get_or-map value xs i d 0 place)) weighs c.loop-index.invariant.so_far;
    }

pub returns-clause-weight : goal.returns-clause-weight
returns-clause-weight g c =
    rolls-done weight c.loop-index.index _ (omega (arith, c.loop-index-test.false))
    c.loop-index.invariant.weights
    ∙ sum_by-weight

pub returns-clause-sum : goal.returns-clause-sum
returns-clause-sum g c =
    rolls-done
    (λ v. weight v * get_or (map g.N.Summand.value c.args.numbers.now) (roll_index v) 0)
    c.loop-index.index _ (omega (arith, c.loop-index-test.false)) c.loop-index.invariant.so_far
