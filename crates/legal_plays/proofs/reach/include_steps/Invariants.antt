use Rattle.std.proofs.Common.{ℕ, ◌+◌, ◌≤◌, ◌↔◌, ◌⊎◌, List, Contains, length}
use Rattle.legal_plays.specs.RankOrder.{IsAscending}
use Rattle.legal_plays.proofs.StepLemmas.{StepBelow}
use Rattle.legal_plays.proofs.reach.include_steps.Given as goal

-- the steps from the points below have been added
abbrev pub invariant-loop-source : goal.invariant-loop-source
invariant-loop-source g l = record {
  ordered : IsAscending l.found.items;
  range : l.source ≤ 7;
  few : length l.found.items + 1 ≤ length l.initial.found.items + l.source;
  members : (y : List ℕ) →
      Contains l.found.items y
      ↔ (Contains l.initial.found.items y ⊎ StepBelow l.position l.die l.source y);
}
