-- What is kept for the dice so far.
use Rattle.std.proofs.Common.{◌≡◌, ℕ, ◌<◌, ◌≤◌, length, slice_index}
use Rattle.race_model.specs.Prelude.{Board, IsHighest, Die, number}
use Rattle.ranking.specs.Chains.{IsChain}
use Rattle.least_plays.specs.Firsts.{IsFirst, at_die}
use Rattle.least_plays.specs.Known.{kept_in}
use Rattle.least_plays.proofs.room.LeastPlays.first_best.Given as goal

-- the dice so far
abbrev pub invariant-loop-index : goal.invariant-loop-index
invariant-loop-index g l = record {
  len : length l.best ≡ 6;
  each : (mean : ℕ → ℕ) (x : Board) → IsHighest x l.highest → IsChain x l.highest l.chain →
      (d : Die) → number d ≤ l.index → (j : ℕ) → j < 9 →
      IsFirst mean (λ q. slice_index (kept_in l.self.rows q d) j)
      x d l.highest 1 (at_die l.best d j);
}
