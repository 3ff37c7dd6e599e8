use Rattle.std.proofs.Common.{◌≡◌, ◌-◌, ◌≤◌}
use Rattle.ranking.specs.Chains.{sum_from, above}
use Rattle.ranking.proofs.rank_table.RankTable.sum_above.Given as goal

-- the points so far
abbrev pub invariant-loop-point : goal.invariant-loop-point
invariant-loop-point l = record {
  first : l.source ≤ l.point;
  sum : l.later ≡ sum_from (above l.left.position l.off) l.source (l.point - l.source);
}
