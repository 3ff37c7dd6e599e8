-- The best of the steps from the points so far.
use Rattle.std.proofs.Common.{◌≤◌}
use Rattle.least_plays.specs.Firsts.{AreFirsts}
use Rattle.least_plays.proofs.room.LeastPlays.best_of.Given as goal

-- the points so far, and the highest
abbrev pub invariant-loop-point : goal.invariant-loop-point
invariant-loop-point g l = record {
  some : 1 ≤ l.point;
  firsts : AreFirsts (g.M.RankedMeans.mean l.means) l.position l.self.rows l.highest l.point l.best;
}
