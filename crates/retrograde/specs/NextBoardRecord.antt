-- What the record of the next rank says, by the records of lower rank. Source: this project's
-- profile.
use Rattle.std.specs.Prelude.{◌≡◌, ℕ, suc, ◌+◌, ◌*◌, ◌^◌, ◌<◌, ◌≤◌, List, slice_index}
use Rattle.race_model.specs.Prelude.{Board, IsFinished, pips, roll_at, roll_index, weighted, most_rolls, IsBestPlay}
use Rattle.race_model.specs.Prelude.{value_of_parts, mean_parts, board_play_of, count_parts, count_at}
use Rattle.db_layout.specs.LowerRecords.{board_mean}

-- these are the ranks of the best plays of x, by the index of the roll
abbrev pub AreBestPlays : (ℕ → ℕ) → Board → List ℕ → Type 0
AreBestPlays mean x plays =
    (i : ℕ) → i < 21 → IsBestPlay mean x (roll_at i) (slice_index plays i)

-- the counts of 1 to n throws are written, and are those of what is played to, at one throw fewer
pub record AreCountsBy (f : List ℕ) (n : ℕ) (plays bytes : List ℕ) : Type 0 where
  pub written : (k : ℕ) → 11 < k → k ≤ n → (count_parts bytes k).lower < 36 ^ 11
  pub value : (k : ℕ) → k < n →
      value_of_parts (count_parts bytes (suc k))
      ≡ weighted (λ v. count_at f (slice_index plays (roll_index v)) k)

-- the bytes are the record of x with these plays, where f holds the records of lower rank
pub record IsRecordBy (f : List ℕ) (x : Board) (plays bytes : List ℕ) : Type 0 where
  pub written : (mean_parts bytes).lower < 36 ^ 11
  pub at_end : IsFinished x → value_of_parts (mean_parts bytes) ≡ 0
  pub before : ¬ IsFinished x →
      36 * value_of_parts (mean_parts bytes)
      ≡ 36 * 36 ^ 33 + weighted (λ v. board_mean f (slice_index plays (roll_index v)))
  pub play_is : (i : ℕ) → i < 21 → board_play_of bytes i ≡ slice_index plays i
  pub counts : AreCountsBy f (most_rolls (pips x)) plays bytes
