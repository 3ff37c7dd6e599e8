use Rattle.std.proofs.Common.{◌≡◌, ◌+◌, ◌*◌}
use Rattle.plain_model.specs.TwoTurns.{rolls_of_two}
use Rattle.plain_model.proofs.totals.over_second_throws.Given as goal

-- so many throws passed, each with as many rolls
abbrev pub invariant-loop-one : goal.invariant-loop-one
invariant-loop-one l = l.total ≡ 6 * l._one * rolls_of_two l.start l.after

-- so many more throws with this first die passed, each with as many rolls
abbrev pub invariant-loop-other : goal.invariant-loop-other
invariant-loop-other l = l.total ≡ (6 * l._one + l._other) * rolls_of_two l.start l.after
