use Rattle.std.proofs.Common.{◌≡◌, ℕ, ◌<◌, length, slice_index}
use Rattle.race_model.specs.Prelude.{roll_at}
use Rattle.certificate.proofs.numbers.plays_by.Given as goal

-- the plays of the rolls of lower index are said
abbrev pub invariant-loop-index : goal.invariant-loop-index
invariant-loop-index g l = record {
  len : length l.plays ≡ 21;
  each : (i : ℕ) → i < l.index → g.F.Fn.post l.play (roll_at i, tt) (slice_index l.plays i);
}
