use Rattle.std.proofs.Common.{◌+◌, ◌-◌, ◌*◌, ◌<◌, ◌≤◌}
use Rattle.fixed_fraction.proofs.wide_fraction.wide_thousandths_of.Given as goal

-- the thousandths are `least` or more, and fewer than `over`
abbrev pub invariant-loop-over : goal.invariant-loop-over
invariant-loop-over l = record {
  reached : 2 * l.least * l.denominator ≤ l.total + l.denominator;
  missed : l.total + l.denominator < 2 * l.over * l.denominator;
  apart : l.least < l.over;
  most : l.over ≤ 180001;
}

abbrev pub decreases-loop-over : goal.decreases-loop-over
decreases-loop-over l = l.over - l.least
