-- What is tested of the record of a position, by what its plays lead to.
use Rattle.std.specs.Prelude.{◌≡◌, ℕ, ◌<◌, List}
use Rattle.race_model.specs.Prelude.{Board, IsPosition, pips, rank, roll_at, IsPlayedIn, play_in, IsBestIn, HasMeanIn}
use Rattle.race_model.specs.Prelude.{HasCountIn, board_book, board_record, count_at, IsMeanWritten, IsCountWritten}
use Rattle.db_layout.specs.BoardRecords.{Stored}
use Rattle.db_layout.specs.LowerRecords.{Lower, AreLocalTo}

-- what is recorded for a roll is a result, and the least
abbrev pub Holds : List ℕ → Board → ℕ → Type 0
Holds f x i = IsPlayedIn (board_book f) x (roll_at i) × IsBestIn (board_book f) x (roll_at i)

-- the mean of a position is written, and its equation holds
abbrev pub MeanHolds : List ℕ → Board → Type 0
MeanHolds f x = IsMeanWritten f x × HasMeanIn (board_book f) x

-- the count of k throws of a position is written, and its equation holds
abbrev pub CountHolds : List ℕ → Board → ℕ → Type 0
CountHolds f x k = IsCountWritten f x k × HasCountIn (board_book f) (count_at f) x k

-- the record of the position of the next rank, whose plays are read and hold, where each record of
-- lower rank was accepted
pub record IsTested (lower : Lower) (x : Board) (stored : Stored) (plays : ℕ → ℕ) : Type 0 where
  pub position : IsPosition x
  pub next : rank x ≡ lower.count
  pub pips_are : stored.pips ≡ pips x
  pub bytes : stored.bytes ≡ board_record lower.bytes (rank x)
  pub read : (i : ℕ) → i < 21 → plays i ≡ play_in (board_book lower.bytes) x (roll_at i)
  pub held : (i : ℕ) → i < 21 → Holds lower.bytes x i
  pub local : AreLocalTo lower.bytes lower.count
