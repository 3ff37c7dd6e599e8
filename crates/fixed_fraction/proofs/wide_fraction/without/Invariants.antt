use Rattle.std.proofs.Common.{◌^◌, ◌≤◌}
use Rattle.fixed_fraction.specs.Ratios.{IsDivided}
use Rattle.fixed_fraction.proofs.wide_fraction.without.Given as goal

-- what was divided so far
abbrev pub invariant-loop-left : goal.invariant-loop-left
invariant-loop-left l = record {
  divided : IsDivided l.fn.number (l.factor ^ l.exponent) l.less (l.factor ^ l.left);
  few : l.left ≤ l.exponent;
}

abbrev pub decreases-loop-left : goal.decreases-loop-left
decreases-loop-left l = l.left
