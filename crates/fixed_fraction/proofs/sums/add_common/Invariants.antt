use Rattle.std.proofs.Common.{◌≡◌, ℕ, ◌+◌, ◌*◌, ◌<◌, ◌≤◌, length, map, slice_index}
use Rattle.race_model.specs.Prelude.{whole}
use Rattle.fixed_fraction.specs.Totals.{sum_at}
use Rattle.fixed_fraction.proofs.sums.add_common.Given as goal

-- the shares of fewer than k rolls are added, and the other sums are as they were
abbrev pub invariant-loop-k : goal.invariant-loop-k
invariant-loop-k g l = record {
  len : length l.shares ≡ 23;
  added : (j : ℕ) → l.fn.from ≤ j → j < l.k → slice_index l.shares j
      ≡ slice_index l.fn.shares j + sum_at (map g.S.Distribution.shares l.spreads) l.indices j;
  small : (j : ℕ) → l.fn.from ≤ j → j < l.k → slice_index l.shares j
      ≤ slice_index l.fn.shares j + length l.indices * whole;
  before : (j : ℕ) → j < l.fn.from → slice_index l.shares j ≡ slice_index l.fn.shares j;
  left : (j : ℕ) → l.k ≤ j → slice_index l.shares j ≡ slice_index l.fn.shares j;
}
