use Rattle.std.proofs.Common.{◌≡◌, ◌*◌, ◌≤◌, map, take}
use Rattle.race_model.specs.Prelude.{whole}
use Rattle.fixed_fraction.specs.Totals.{sum_at}
use Rattle.fixed_fraction.proofs.sums.sum_of_shares.Given as goal

-- the sum over the first plays
abbrev pub invariant-loop-place : goal.invariant-loop-place
invariant-loop-place g l = record {
  total : l.total ≡ sum_at (map g.S.Distribution.shares l.spreads) (take l.place l.indices) l.k;
  small : l.total ≤ l.place * whole;
}
