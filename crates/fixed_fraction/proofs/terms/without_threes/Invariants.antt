use Rattle.std.proofs.Common.{◌≡◌, ◌^◌, ◌≤◌}
use Rattle.fixed_fraction.specs.Ratios.{IsDivided}
use Rattle.fixed_fraction.proofs.terms.without_threes.Given as goal

-- threes were taken out of both
abbrev pub invariant-loop-next : goal.invariant-loop-next
invariant-loop-next l = record {
  twos : l.less.twos ≡ l.fn.terms.twos;
  threes : l.less.threes ≤ l.fn.terms.threes;
  divided : IsDivided l.fn.terms.numerator (3 ^ l.fn.terms.threes) l.less.numerator
      (3 ^ l.less.threes);
}

-- the threes of the denominator become fewer
abbrev pub decreases-loop-next : goal.decreases-loop-next
decreases-loop-next l = l.less.threes
