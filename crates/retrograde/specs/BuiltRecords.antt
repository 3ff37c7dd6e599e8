-- The records that the builder has made, by rank, and the
-- equations that each meets over those of lower rank.
use Rattle.std.specs.Prelude.{◌≡◌, ℕ, suc, ◌+◌, ◌*◌, ◌<◌, ◌≤◌, List, [], length, slice_index, slice_index_or}
use Rattle.race_model.specs.Prelude.{Board, IsFinished, pips, roll_at, roll_index, weighted, at_rank, Version, whole}
use Rattle.race_model.specs.Prelude.{Strategy, Fits, total, count_of, IsBestPlay}
use Rattle.db_layout.specs.Records.{record_of, IsRecordOf}

-- the shares of a rank, from none to 22 rolls
abbrev pub shares_of : List (List ℕ) → ℕ → List ℕ
shares_of spreads r = slice_index_or spreads r []

-- the weighted sum of the means that the rolls play to
abbrev pub sum_of_means : List ℕ → List ℕ → ℕ
sum_of_means means plays = weighted (λ v. slice_index means (slice_index plays (roll_index v)))

-- the weighted sum of the shares of exactly k rolls that the rolls play to
abbrev pub sum_of_shares : List (List ℕ) → List ℕ → ℕ → ℕ
sum_of_shares spreads plays k =
    weighted (λ v. slice_index (shares_of spreads (slice_index plays (roll_index v))) k)

-- the record of a position: its plays are the best, and its
-- mean and its shares are those of its plays, one roll later
pub record IsMade (means : List ℕ) (spreads : List (List ℕ)) (x : Board) (mean : ℕ)
    (plays shares : List ℕ) : Type 0 where
  pub best : (i : ℕ) → i < 21 → IsBestPlay (slice_index means) x (roll_at i) (slice_index plays i)
  pub mean_at_end : IsFinished x → mean ≡ 0
  pub mean_before : ¬ IsFinished x → 36 * mean ≡ 36 * whole + sum_of_means means plays
  pub start_at_end : IsFinished x → slice_index shares 0 ≡ whole
  pub start_before : ¬ IsFinished x → slice_index shares 0 ≡ 0
  pub share_at_end : IsFinished x → (k : ℕ) → slice_index shares (suc k) ≡ 0
  pub share_before : ¬ IsFinished x → (k : ℕ) → k < 22 →
      36 * slice_index shares (suc k) ≡ sum_of_shares spreads plays k

-- a strategy from the position has this mean and these shares
pub record IsReached (x : Board) (mean : ℕ) (shares : List ℕ) : Type 0 where
  pub strategy : Strategy
  pub fits : Fits strategy x
  pub total_is : total strategy ≡ mean
  pub counts : (k : ℕ) → k ≤ 22 → count_of strategy k ≡ slice_index shares k

-- the bytes of the record of a position tell it, in files of either version
abbrev pub IsReadBack : Board → ℕ → List ℕ → List ℕ → Type 0
IsReadBack x mean plays shares =
    (version : Version) → IsRecordOf version (pips x)
    (record_of version (pips x) mean plays shares) mean plays shares

-- the records of the first n ranks
pub record AreMade (n : ℕ) (means : List ℕ) (plays spreads : List (List ℕ)) : Type 0 where
  pub means_len : length means ≡ n
  pub plays_len : length plays ≡ n
  pub spreads_len : length spreads ≡ n
  pub made : (r : ℕ) → r < n →
      IsMade means spreads (at_rank r) (slice_index means r) (slice_index_or plays r [])
      (shares_of spreads r)
  pub reached : (r : ℕ) → r < n → IsReached (at_rank r) (slice_index means r) (shares_of spreads r)
  pub reads : (r : ℕ) → r < n →
      IsReadBack (at_rank r) (slice_index means r) (slice_index_or plays r [])
      (shares_of spreads r)

-- the records of the first n ranks, as three lists
pub record HasRecords (n : ℕ) : Type 0 where
  pub means : List ℕ
  pub plays : List (List ℕ)
  pub spreads : List (List ℕ)
  pub made : AreMade n means plays spreads
  pub plays_len : (r : ℕ) → r < n → length (slice_index_or plays r []) ≡ 21
  pub shares_len : (r : ℕ) → r < n → length (shares_of spreads r) ≡ 23
