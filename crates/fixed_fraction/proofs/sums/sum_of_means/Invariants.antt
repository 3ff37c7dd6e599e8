use Rattle.std.proofs.Common.{◌≡◌, ◌*◌, ◌≤◌, sum_by, take, slice_index}
use Rattle.race_model.specs.Prelude.{all_rolls, roll_index, weight, whole}
use Rattle.fixed_fraction.proofs.sums.sum_of_means.Given as goal

-- the sum over the rolls so far, and how large it may be
abbrev pub invariant-loop-index : goal.invariant-loop-index
invariant-loop-index l = record {
  total : l.total
      ≡ sum_by (λ v. weight v * slice_index l.means (roll_index v)) (take l.index all_rolls);
  small : l.total ≤ sum_by weight (take l.index all_rolls) * (22 * whole);
}
