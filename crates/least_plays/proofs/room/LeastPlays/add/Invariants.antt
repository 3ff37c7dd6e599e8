-- The better ones for the dice so far.
use Rattle.std.proofs.Common.{◌≡◌, ℕ, ◌+◌, ◌<◌, ◌≤◌, length, slice_index}
use Rattle.race_model.specs.Prelude.{Die, number}
use Rattle.least_plays.specs.Firsts.{IsFirst, at_die}
use Rattle.least_plays.specs.Known.{kept_in}
use Rattle.least_plays.proofs.room.LeastPlays.add.Given as goal

-- the dice so far have the steps from the point, and the others not yet
abbrev pub invariant-loop-index : goal.invariant-loop-index
invariant-loop-index g l = record {
  len : length l.best ≡ 6;
  done : (d : Die) → number d ≤ l.index → (j : ℕ) → j < 9 →
      IsFirst (g.M.RankedMeans.mean l.means) (λ q. slice_index (kept_in l.self.rows q d) j)
      l.position d l.highest (l.point + 1) (at_die l.best d j);
  rest : (d : Die) → l.index < number d → (j : ℕ) → j < 9 →
      IsFirst (g.M.RankedMeans.mean l.means) (λ q. slice_index (kept_in l.self.rows q d) j)
      l.position d l.highest l.point (at_die l.best d j);
}
