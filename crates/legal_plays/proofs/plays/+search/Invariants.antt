use Rattle.std.proofs.Common.{ℕ, ◌<◌, List, length}
use Rattle.race_model.specs.Prelude.{number, StepFrom, Run}
use Rattle.legal_plays.proofs.plays.+search.Given as goal

-- one die fewer
abbrev pub decreases-search : goal.decreases-search
decreases-search l = length l.dice.now

-- no step from a higher point leads on to the target
abbrev pub invariant-loop-source : goal.invariant-loop-source
invariant-loop-source l =
    (s : ℕ) (z : List ℕ) → l.source < s → StepFrom l.position (number l.die) s z →
    ¬ Run z l.rest l.target
