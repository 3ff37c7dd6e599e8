use Rattle.ranking.proofs.Reading.{IsRead}
use Rattle.ranking.proofs.rank_table.RankTable.rank.Given as goal

-- the points below have been read
abbrev pub invariant-loop-point : goal.invariant-loop-point
invariant-loop-point l = IsRead l.position l.point l.checkers_left l.pips_left l.later
