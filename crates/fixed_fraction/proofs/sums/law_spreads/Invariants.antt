use Rattle.std.proofs.Common.{◌≡◌, ℕ, ◌<◌, [], length, map, sum, slice_index_or}
use Rattle.race_model.specs.Prelude.{whole}
use Rattle.fixed_fraction.proofs.sums.law_spreads.Given as goal

-- the spreads so far
abbrev pub invariant-loop-spread : goal.invariant-loop-spread
invariant-loop-spread g l = record {
  wholes : (i : ℕ) → i < l.spread-index
      → sum (slice_index_or (map g.S.Distribution.shares l.spreads) i []) ≡ whole;
  lengths : (i : ℕ) → i < l.spread-index
      → length (slice_index_or (map g.S.Distribution.shares l.spreads) i []) ≡ 23;
}
