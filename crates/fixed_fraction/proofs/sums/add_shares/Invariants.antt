use Rattle.std.proofs.Common.{◌≡◌, ℕ, ◌+◌, ◌<◌, ◌≤◌, length, slice_index}
use Rattle.fixed_fraction.proofs.sums.add_shares.Given as goal

-- the shares of fewer than k rolls are added, and the other sums are as they were
abbrev pub invariant-loop-k : goal.invariant-loop-k
invariant-loop-k g l = record {
  len : length l.shares ≡ 23;
  from : l.fn.from ≤ l.k;
  added : (j : ℕ) → l.fn.from ≤ j → j < l.k → slice_index l.shares j
      ≡ slice_index l.fn.shares j + slice_index (g.S.Distribution.shares l.fn.spread) j;
  before : (j : ℕ) → j < l.fn.from → slice_index l.shares j ≡ slice_index l.fn.shares j;
  beyond : (j : ℕ) → l.fn.to ≤ j → slice_index l.shares j ≡ slice_index l.fn.shares j;
  left : (j : ℕ) → l.k ≤ j → slice_index l.shares j ≡ slice_index l.fn.shares j;
}
