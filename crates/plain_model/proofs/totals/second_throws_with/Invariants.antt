use Rattle.std.proofs.Common.{◌≡◌, ◌+◌, ◌*◌, ◌==◌, if◌then◌else◌}
use Rattle.plain_model.specs.TwoTurns.{rolls_of_two}
use Rattle.plain_model.proofs.totals.second_throws_with.Given as goal

-- all throws passed are counted, or none
abbrev pub invariant-loop-one : goal.invariant-loop-one
invariant-loop-one l =
    l.count ≡ (if rolls_of_two l.start l.after == l.rolls then 6 * l._one else 0)

-- so many more throws with this first die are counted, or none
abbrev pub invariant-loop-other : goal.invariant-loop-other
invariant-loop-other l =
    l.count ≡ (if rolls_of_two l.start l.after == l.rolls then 6 * l._one + l._other else 0)
