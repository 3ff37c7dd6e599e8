use Rattle.std.proofs.Common.{◌≡◌, ℕ, ◌<◌, ◌≤◌, slice_index, length}
use Rattle.epc_query.proofs.database.Database.shares.Given as goal

-- the shares so far, and none beyond
abbrev pub invariant-loop-k : goal.invariant-loop-k
invariant-loop-k l = record {
  size : length l.shares ≡ 34;
  told : (k : ℕ) → k < l.k → slice_index l.shares k ≡ slice_index l.spread k;
  none : (k : ℕ) → l.k ≤ k → slice_index l.shares k ≡ 0;
}
