use Rattle.std.proofs.Common.{◌≡◌, ◌+◌, drop, sum}
use Rattle.plain_model.proofs.plays.checkers_above.Given as goal

-- the points passed have been counted
abbrev pub invariant-loop-below : goal.invariant-loop-below
invariant-loop-below l = l.checkers + sum (drop l.below l.position) ≡ sum (drop l.point l.position)
