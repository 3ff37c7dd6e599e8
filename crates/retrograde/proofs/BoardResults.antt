-- What the best plays of the position of a rank lead to: ranks below it, of results of the rolls.
use Rattle.std.proofs.Common.{◌≡◌, ℕ, List, arith, slice_index}
use Rattle.race_model.specs.Prelude.{Board, IsPosition, IsFinished, roll_at, rank}
use Rattle.race_model.proofs.Ranks.BestPlays.{legal_lower}
use Rattle.db_layout.specs.LowerRecords.{AreBelow, AreResults}
use Rattle.retrograde.specs.NextBoardRecord.{AreBestPlays}

-- the best plays of a position
module _ (mean : ℕ → ℕ) (x : Board) (plays : List ℕ) (best : AreBestPlays mean x plays) where
  -- each leads to a result of its roll
  pub are-results : AreResults x (slice_index plays)
  are-results i inside = (best i inside).reached

  -- the rank of each result is lower, if the position isn't finished
  pub are-below : (n : ℕ) → IsPosition x → ¬ IsFinished x → rank x ≡ n →
      AreBelow (slice_index plays) n
  are-below n at unfinished is i inside =
      let z = are-results i inside in
      omega (arith, z.2, is, legal_lower x (roll_at i) z.0 at unfinished z.1)
