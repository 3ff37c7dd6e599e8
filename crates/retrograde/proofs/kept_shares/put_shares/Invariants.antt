use Rattle.std.proofs.Common.{◌≡◌, ℕ, ◌+◌, ◌*◌, ◌<◌, length, take, slice_index}
use Rattle.std.specs.Int.{w128, from_le_bytes}
use Rattle.race_model.specs.Prelude.{bytes_at}
use Rattle.retrograde.proofs.kept_shares.put_shares.Given as goal

-- the first shares are written
abbrev pub invariant-loop-k : goal.invariant-loop-k
invariant-loop-k l = record {
  len : length l.room ≡ length l.fn.room;
  put : (j : ℕ) → j < l.k →
      from_le_bytes w128 (bytes_at l.room (l.start + 16 * j) 16) ≡ slice_index l.spread j;
  front : take l.start l.room ≡ take l.start l.fn.room;
}
