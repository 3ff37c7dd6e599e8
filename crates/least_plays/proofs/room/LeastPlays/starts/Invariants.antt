-- The best ranks with the first dice so far.
use Rattle.std.proofs.Common.{◌≡◌, ℕ, ◌+◌, ◌<◌, length, slice_index_or}
use Rattle.race_model.specs.Prelude.{Die, number}
use Rattle.least_plays.specs.Known.{IsStart}
use Rattle.least_plays.specs.declared.starts.Start.{Start}
use Rattle.least_plays.proofs.room.LeastPlays.starts.Given as goal

-- the first dice so far
abbrev pub invariant-loop-index : goal.invariant-loop-index
invariant-loop-index g l = record {
  len : length l.dice ≡ 6;
  each : (other : Start) (j : ℕ) → j < l.index → (d : Die) → number d ≡ j + 1 →
      IsStart (g.M.RankedMeans.mean l.means) l.position d (slice_index_or l.dice j other);
}
