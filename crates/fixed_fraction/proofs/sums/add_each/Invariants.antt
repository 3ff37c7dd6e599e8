use Rattle.std.proofs.Common.{◌≡◌, ℕ, ◌+◌, ◌*◌, ◌<◌, ◌≤◌, length, map, take, slice_index}
use Rattle.race_model.specs.Prelude.{whole}
use Rattle.fixed_fraction.specs.Totals.{sum_at}
use Rattle.fixed_fraction.proofs.sums.add_each.Given as goal

-- the shares of the first plays are added, each of which is at most the whole
abbrev pub invariant-loop-place : goal.invariant-loop-place
invariant-loop-place g l = record {
  len : length l.shares ≡ 23;
  added : (k : ℕ) → l.fn.from ≤ k → k < l.fn.to → slice_index l.shares k
      ≡ slice_index l.fn.shares k
      + sum_at (map g.S.Distribution.shares l.spreads) (take l.place l.indices) k;
  small : (k : ℕ) → l.fn.from ≤ k → k < l.fn.to → slice_index l.shares k
      ≤ slice_index l.fn.shares k + l.place * whole;
  before : (k : ℕ) → k < l.fn.from → slice_index l.shares k ≡ slice_index l.fn.shares k;
  beyond : (k : ℕ) → l.fn.to ≤ k → slice_index l.shares k ≡ slice_index l.fn.shares k;
}
