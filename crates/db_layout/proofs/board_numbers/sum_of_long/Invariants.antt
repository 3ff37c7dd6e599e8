use Rattle.std.proofs.Common.{◌≡◌, ℕ, ◌<◌, length, slice_index}
use Rattle.race_model.specs.Prelude.{count_at}
use Rattle.db_layout.proofs.board_numbers.sum_of_long.Given as goal

-- the counts of the plays so far
abbrev pub invariant-loop-index : goal.invariant-loop-index
invariant-loop-index l = record {
  len : length l.counts ≡ 21;
  are : (i : ℕ) → i < l.index →
      slice_index l.counts i ≡ count_at l.lower.bytes (slice_index l.plays i) l.k;
}
