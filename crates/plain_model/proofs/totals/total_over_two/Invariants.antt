use Rattle.std.proofs.Common.{◌≡◌, ◌+◌, ◌*◌}
use Rattle.plain_model.proofs.TotalLemmas.{added_to}
use Rattle.plain_model.proofs.totals.total_over_two.Given as goal

-- the first throws passed
abbrev pub invariant-loop-first : goal.invariant-loop-first
invariant-loop-first l = l.total ≡ added_to (λ k. k) l.start l.plays (6 * l.first)

-- the throws with this first die passed
abbrev pub invariant-loop-second : goal.invariant-loop-second
invariant-loop-second l = l.total ≡ added_to (λ k. k) l.start l.plays (6 * l.first + l.second)
