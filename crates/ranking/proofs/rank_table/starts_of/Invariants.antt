use Rattle.std.proofs.Common.{◌+◌}
use Rattle.race_model.specs.Prelude.{first_of}
use Rattle.ranking.proofs.Cells.{IsFilled}
use Rattle.ranking.proofs.rank_table.starts_of.Given as goal

-- the sums so far
abbrev pub invariant-loop-pips : goal.invariant-loop-pips
invariant-loop-pips l = IsFilled first_of 92 (l.pips + 1) l.starts
