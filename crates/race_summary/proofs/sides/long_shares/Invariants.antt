use Rattle.std.proofs.Common.{◌≡◌, ℕ, ◌*◌, ◌<◌, slice_index, length}
use Rattle.epc_query.specs.Kinds.{scale_as}
use Rattle.race_summary.proofs.sides.long_shares.Given as goal

-- the shares over 36 ^ 33 so far
abbrev pub invariant-loop-k : goal.invariant-loop-k
invariant-loop-k l = record {
  size : length l.long ≡ 34;
  told : (k : ℕ) → k < l.k → slice_index l.long k ≡ scale_as l.kind * slice_index l.shares k;
}
