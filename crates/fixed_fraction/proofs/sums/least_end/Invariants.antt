use Rattle.std.proofs.Common.{ℕ, ◌<◌, ◌≤◌, map, slice_index}
use Rattle.fixed_fraction.proofs.sums.least_end.Given as goal

-- the least of the first plays
abbrev pub invariant-loop-place : goal.invariant-loop-place
invariant-loop-place g l = record {
  few : l.least ≤ l.rolls;
  least : (j : ℕ) → j < l.place →
      l.least ≤ slice_index (map g.S.Distribution.end l.spreads) (slice_index l.indices j);
}
