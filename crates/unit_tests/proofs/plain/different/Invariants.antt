use Rattle.std.proofs.Common.{◌≤◌}
use Rattle.unit_tests.proofs.plain.different.Given as goal

-- no more than the positions passed
abbrev pub invariant-loop-place : goal.invariant-loop-place
invariant-loop-place l = l.count ≤ l.place
