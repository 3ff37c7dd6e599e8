use Rattle.std.proofs.Common.{◌≡◌, ◌*◌, map, sum_by, take, slice_index}
use Rattle.race_model.specs.Prelude.{all_rolls, roll_index, weight}
use Rattle.fixed_fraction.proofs.roll_sum.sum_of.Given as goal

-- the sum over the rolls so far, and their weights
abbrev pub invariant-loop-index : goal.invariant-loop-index
invariant-loop-index g l = record {
  weights : (g.N.Summand.total l.total).weight ≡ sum_by weight (take l.index all_rolls);
  so_far : (g.N.Summand.total l.total).sum
      ≡ sum_by
      (λ v. weight v * slice_index (map g.N.Summand.value l.numbers) (roll_index v))
      (take l.index all_rolls);
}
