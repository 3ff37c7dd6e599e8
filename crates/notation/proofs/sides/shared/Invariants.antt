use Rattle.std.proofs.Common.{ℕ, ◌<◌, ◌≤◌, ◌-◌}
use Rattle.notation.specs.Sides.{Stands}
use Rattle.notation.proofs.sides.shared.Given as goal

-- the lowest one of the points so far, which go down from 24
abbrev pub invariant-loop-place : goal.invariant-loop-place
invariant-loop-place l = record {
  mine : 0 < l.shared → Stands l.mine l.shared;
  theirs : 0 < l.shared → Stands l.theirs (25 - l.shared);
  lowest : (point : ℕ) → Stands l.mine point → Stands l.theirs (25 - point) → 24 - l.place < point
      → (0 < l.shared) × (l.shared ≤ point);
}
