use Rattle.std.proofs.Common.{◌-◌}
use Rattle.ranking.proofs.Counting.{IsCounted}
use Rattle.ranking.proofs.rank_table.RankTable.count_at.Given as goal

-- with fewer checkers on the point more positions come later
abbrev pub invariant-loop-count : goal.invariant-loop-count
invariant-loop-count l = IsCounted l.point l.checkers l.pips l.later l.count

abbrev pub decreases-loop-count : goal.decreases-loop-count
decreases-loop-count l = l.checkers - l.count
