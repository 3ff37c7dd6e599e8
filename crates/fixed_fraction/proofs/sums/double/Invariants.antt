use Rattle.std.proofs.Common.{◌≡◌, ℕ, ◌*◌, ◌<◌, ◌≤◌, length, slice_index}
use Rattle.fixed_fraction.proofs.sums.double.Given as goal

-- the first sums are doubled, and the others are as they were
abbrev pub invariant-loop-k : goal.invariant-loop-k
invariant-loop-k l = record {
  len : length l.shares ≡ 23;
  doubled : (j : ℕ) → j < l.k → slice_index l.shares j ≡ 2 * slice_index l.fn.shares j;
  left : (j : ℕ) → l.k ≤ j → slice_index l.shares j ≡ slice_index l.fn.shares j;
}
