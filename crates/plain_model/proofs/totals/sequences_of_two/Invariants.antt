use Rattle.std.proofs.Common.{◌≡◌, ◌+◌, ◌*◌}
use Rattle.race_model.proofs.Strategies.Histories.{one_at}
use Rattle.plain_model.proofs.TotalLemmas.{added_to}
use Rattle.plain_model.proofs.totals.sequences_of_two.Given as goal

-- the first throws passed
abbrev pub invariant-loop-one : goal.invariant-loop-one
invariant-loop-one l = l.count ≡ added_to (one_at l.rolls) l.start l.plays (6 * l.one)

-- the throws with this first die passed
abbrev pub invariant-loop-other : goal.invariant-loop-other
invariant-loop-other l = l.count ≡ added_to (one_at l.rolls) l.start l.plays (6 * l.one + l.other)
