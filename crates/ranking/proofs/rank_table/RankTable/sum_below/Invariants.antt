use Rattle.std.proofs.Common.{◌≡◌, ◌-◌, ◌≤◌}
use Rattle.ranking.specs.Chains.{sum_from, below}
use Rattle.ranking.proofs.rank_table.RankTable.sum_below.Given as goal

-- the points so far
abbrev pub invariant-loop-point : goal.invariant-loop-point
invariant-loop-point l = record {
  first : 1 ≤ l.point;
  sum : l.later ≡ sum_from (below l.left.position l.far) 1 (l.point - 1);
}
