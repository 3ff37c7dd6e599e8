use Rattle.std.proofs.Common.{◌-◌, ◌≤◌}
use Rattle.race_model.specs.Prelude.{first_of}
use Rattle.ranking.proofs.firsts.pips_of.Given as goal

-- the rank is one of this pip count or of a higher one
abbrev pub invariant-loop-pips : goal.invariant-loop-pips
invariant-loop-pips l = record {
  low : l.pips ≤ 90;
  from : first_of l.pips ≤ l.rank;
}

-- there are fewer higher ones
abbrev pub decreases-loop-pips : goal.decreases-loop-pips
decreases-loop-pips l = 91 - l.pips
