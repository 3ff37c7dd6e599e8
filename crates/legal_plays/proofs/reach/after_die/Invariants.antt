use Rattle.std.proofs.Common.{ℕ, ◌*◌, ◌≤◌, ◌↔◌, List, Contains, length, take}
use Rattle.legal_plays.specs.RankOrder.{IsAscending}
use Rattle.legal_plays.specs.MoveLists.{PlaysDie}
use Rattle.legal_plays.proofs.reach.after_die.Given as goal

-- the positions after the ones passed have been added
abbrev pub invariant-loop-position : goal.invariant-loop-position
invariant-loop-position g l = record {
  ordered : IsAscending l.found.items;
  few : length l.found.items ≤ 6 * l.position-index;
  members : (y : List ℕ) →
      Contains l.found.items y
      ↔ ((x : List ℕ) × (Contains (take l.position-index l.positions) x × PlaysDie x l.die y));
}
