use Rattle.race_model.specs.Prelude.{at_rank}
use Rattle.ranking.proofs.Counting.{IsWritten}
use Rattle.ranking.proofs.rank_table.RankTable.unrank.Given as goal

-- the counts of the points below have been found
abbrev pub invariant-loop-point : goal.invariant-loop-point
invariant-loop-point l =
    IsWritten (at_rank l.index) l.point l.checkers_left l.pips_left l.later l.counts
