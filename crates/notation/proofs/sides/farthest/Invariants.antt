use Rattle.std.proofs.Common.{ℕ, ◌<◌, ◌≤◌}
use Rattle.notation.specs.Sides.{Stands}
use Rattle.notation.proofs.sides.farthest.Given as goal

-- the farthest one of the points so far
abbrev pub invariant-loop-place : goal.invariant-loop-place
invariant-loop-place l = record {
  stands : 0 < l.farthest → Stands l.side l.farthest;
  all : (point : ℕ) → Stands l.side point → point ≤ l.place → point ≤ l.farthest;
  range : l.farthest ≤ l.place;
}
