use Rattle.std.proofs.Common.{ℕ, ◌<◌, slice_index}
use Rattle.race_model.specs.Prelude.{roll_at}
use Rattle.least_plays.specs.Recorded.{IsLeastPlay}
use Rattle.least_plays.proofs.recorded.check_plays.Given as goal

-- what is recorded for the rolls of lower index is least
abbrev pub invariant-loop-index : goal.invariant-loop-index
invariant-loop-index g l = record {
  held : (i : ℕ) → i < l.index →
      IsLeastPlay (g.M.RankedMeans.mean l.means) l.position (roll_at i) (slice_index l.recorded i);
}
