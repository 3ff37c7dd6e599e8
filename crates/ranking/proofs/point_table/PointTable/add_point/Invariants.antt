use Rattle.ranking.proofs.Filling.{IsPartway}
use Rattle.ranking.proofs.point_table.PointTable.add_point.Given as goal

-- the rows so far
abbrev pub invariant-loop-checkers : goal.invariant-loop-checkers
invariant-loop-checkers l = IsPartway l.point l.checkers l.self.rows l.occupied.rows
