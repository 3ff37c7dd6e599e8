use Rattle.std.proofs.Common.{◌≡◌, ℕ, ◌<◌, ◌≤◌, List, length, get_or, slice_index}
use Rattle.race_model.specs.Prelude.{rank}
use Rattle.retrograde.proofs.plays.best_of.Given as goal

-- the best of the positions so far
abbrev pub invariant-loop-position : goal.invariant-loop-position
invariant-loop-position l = record {
  found : (k : ℕ) × (k < length l.found) × ((d : List ℕ) → rank (get_or l.found k d) ≡ l.best);
  mean : l.least ≡ slice_index l.means l.best;
  least : (k : ℕ) (d : List ℕ) → k < l.position-index →
      l.least ≤ slice_index l.means (rank (get_or l.found k d));
  lowest : (k : ℕ) (d : List ℕ) → k < l.position-index →
      slice_index l.means (rank (get_or l.found k d)) ≡ l.least →
      l.best ≤ rank (get_or l.found k d);
}
