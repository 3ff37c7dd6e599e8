use Rattle.epc_query.specs.LevelMeans.{AreMeansOf}
use Rattle.epc_query.specs.Kinds.{long_by}
use Rattle.epc_query.proofs.levels.find_level.Given as goal

-- the least and the greatest mean of the ranks so far
abbrev pub invariant-loop-rank : goal.invariant-loop-rank
invariant-loop-rank l =
    AreMeansOf (long_by l.opened).means l.first l.rank l.least
    l.greatest
