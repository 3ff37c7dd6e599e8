use Rattle.std.proofs.Common.{◌≡◌, ◌+◌, ◌*◌, ◌≤◌, sum_by, take}
use Rattle.race_model.specs.Prelude.{whole}
use Rattle.fixed_fraction.proofs.scaled.pull.Given as goal

-- the sum of the parts so far, and how large it may be
abbrev pub invariant-loop-weight : goal.invariant-loop-weight
invariant-loop-weight l = record {
  total : l.total ≡ 36 * whole + sum_by (λ part. part.0 * part.1) (take l.weight-index l.parts);
  small : l.total
      ≤ 36 * whole + sum_by (λ part. part.0) (take l.weight-index l.parts) * (22 * whole);
}
