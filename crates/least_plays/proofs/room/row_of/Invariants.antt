-- What is kept for the dice so far.
use Rattle.std.proofs.Common.{◌≡◌, ℕ, ◌<◌, [], length, slice_index_or}
use Rattle.least_plays.specs.declared.starts.Start.{Start}
use Rattle.least_plays.proofs.room.row_of.Given as goal

-- the dice so far
abbrev pub invariant-loop-index : goal.invariant-loop-index
invariant-loop-index l = record {
  len : length l.after ≡ 6;
  each : (i : ℕ) (e : Start) → i < l.index →
      slice_index_or l.after i [] ≡ (slice_index_or l.starts.dice i e).after;
}
