use Rattle.std.proofs.Common.{◌≡◌, ◌*◌, ◌≤◌, sum_by, take}
use Rattle.race_model.specs.Prelude.{whole}
use Rattle.fixed_fraction.specs.Totals.{weighted_share}
use Rattle.fixed_fraction.proofs.spread.weighted_share.Given as goal

-- the sum of the parts so far, and how large it may be
abbrev pub invariant-loop-weight : goal.invariant-loop-weight
invariant-loop-weight l = record {
  total : l.total ≡ weighted_share (take l.weight-index l.parts) l.k;
  small : l.total ≤ sum_by (λ part. part.0) (take l.weight-index l.parts) * whole;
}
