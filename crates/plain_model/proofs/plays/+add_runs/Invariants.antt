use Rattle.std.proofs.Common.{◌≡◌, ◌-◌, ◌++◌, length}
use Rattle.race_model.specs.Prelude.{number}
use Rattle.plain_model.proofs.RunLemmas.{from_points}
use Rattle.plain_model.proofs.plays.+add_runs.Given as goal

-- one die fewer
abbrev pub decreases-add_runs : goal.decreases-add_runs
decreases-add_runs l = length l.dice.now

-- what the steps from the points passed lead to has been added
abbrev pub invariant-loop-source : goal.invariant-loop-source
invariant-loop-source l =
    l.found.items
    ≡ l.initial.found.items ++ from_points l.rest l.position (number l.die) 1 (l.source - 1)
