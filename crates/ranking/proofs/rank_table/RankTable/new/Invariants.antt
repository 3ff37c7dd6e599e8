use Rattle.std.proofs.Common.{◌≡◌, ℕ, ◌+◌, ◌-◌, ◌<◌, ◌≤◌, length, slice_index_or}
use Rattle.ranking.specs.Tables.{ways, used, IsPointTable}
use Rattle.ranking.specs.declared.point_table.PointTable.{PointTable}
use Rattle.ranking.proofs.rank_table.RankTable.new.Given as goal

-- the points from the next one on are counted
abbrev pub invariant-loop-above : goal.invariant-loop-above
invariant-loop-above l = record {
  ways : IsPointTable (ways (7 - l.above)) l.ways;
  long : length l.points ≡ 6;
  counted : (i : ℕ) (d : PointTable) → 6 ≤ i + l.above → i < 6 →
      IsPointTable (used (i + 1)) (slice_index_or l.points i d);
}
