use Rattle.std.proofs.Common.{◌≡◌, ◌*◌, sum_by, take, slice_index}
use Rattle.race_model.specs.Prelude.{all_rolls, roll_index, weight}
use Rattle.db_layout.specs.LowerRecords.{board_mean}
use Rattle.db_layout.proofs.board_numbers.sum_of_means.Given as goal

-- the sum over the rolls so far, and their weights
abbrev pub invariant-loop-index : goal.invariant-loop-index
invariant-loop-index l = record {
  weights : l.sum.weight ≡ sum_by weight (take l.index all_rolls);
  so_far : l.sum.sum ≡ sum_by
      (λ v. weight v * board_mean l.lower.bytes (slice_index l.plays (roll_index v)))
      (take l.index all_rolls);
}
