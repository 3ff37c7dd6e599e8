use Rattle.std.proofs.Common.{ℕ, ◌+◌, ◌≤◌, ◌↔◌, ◌⊎◌, List, Contains, length, take}
use Rattle.legal_plays.specs.RankOrder.{IsAscending}
use Rattle.legal_plays.proofs.reach.include_all.Given as goal

-- the positions passed have been added
abbrev pub invariant-loop-other : goal.invariant-loop-other
invariant-loop-other g l = record {
  ordered : IsAscending l.found.items;
  few : length l.found.items ≤ length l.initial.found.items + l.other-index;
  members : (y : List ℕ) →
      Contains l.found.items y
      ↔ (Contains l.initial.found.items y ⊎ Contains (take l.other-index l.others) y);
}
