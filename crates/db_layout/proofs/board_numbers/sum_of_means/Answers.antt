-- The mean of one play more, and the sum of all.
use Rattle.std.proofs.Common.{◌*◌, ap, arith, slice_index}
use Rattle.race_model.specs.Prelude.{roll_index, weight}
use Rattle.fixed_fraction.specs.Board.{WeightedSum}
use Rattle.fixed_fraction.proofs.RollSums.{roll-more, roll-next, rolls-done}
use Rattle.fixed_fraction.proofs.RollSums.{weights-by_index, weights-within}
use Rattle.db_layout.specs.LowerRecords.{board_mean}
use Rattle.db_layout.proofs.board_numbers.sum_of_means.Goals as goal

pub loop-index-init : goal.loop-index-init
loop-index-init c = record {
  weights = ap (λ (s : WeightedSum). s.weight) c.none-sum.ensures;
  so_far = ap (λ (s : WeightedSum). s.sum) c.none-sum.ensures;
}

pub plus-sum-requires : goal.plus-sum-requires
plus-sum-requires c = omega (
  arith,
  c.loop-index.invariant.weights,
  weights-by_index c.loop-index.index c.loop-index-test.true,
  weights-within c.loop-index.index c.loop-index-test.true,
)

pub loop-index-preserved : goal.loop-index-preserved
loop-index-preserved c =
    let i = c.loop-index.index in
    let lt = c.loop-index-test.true in
    let weighs = weights-by_index i lt in
    rw c.plus-sum.ensures record {
      weights = omega (arith, c.loop-index.invariant.weights, weighs, roll-more weight i lt);
      so_far =
          roll-next
          (λ r. board_mean c.args.lower.now.bytes (slice_index c.args.plays.now r)) i
          c.mean_at.result _ _ lt c.mean_at.ensures weighs c.loop-index.invariant.so_far;
    }

pub returns : goal.returns
returns c =
    rolls-done
    (λ v. weight v
    * board_mean c.args.lower.now.bytes (slice_index c.args.plays.now (roll_index v)))
    c.loop-index.index _ (omega (arith, c.loop-index-test.false)) c.loop-index.invariant.so_far
