-- The records of a board file below a rank.
use Rattle.std.specs.Prelude.{◌≡◌, ℕ, ◌-◌, ◌/◌, ◌^◌, ◌<◌, ◌≤◌, min, List, length, slice_index}
use Rattle.std.specs.Int.{w128, from_be_bytes}
use Rattle.race_model.specs.Prelude.{Board, IsPosition, roll_at, Legal, rank, bytes_at, board_place, board_record}
use Rattle.race_model.specs.Prelude.{mean_parts, value_of_parts, IsLocalOnBoard}

-- bytes that begin as a board file does, and how many of its records they hold
pub record Lower : Type 0 where
  pub bytes : List ℕ
  pub count : ℕ

-- the records of the ranks below one meet their equations
abbrev pub AreLocalTo : List ℕ → ℕ → Type 0
AreLocalTo f n = (z : Board) → IsPosition z → rank z < n → IsLocalOnBoard f z

-- the leading bits of the mean that begins at a place, of its upper part
abbrev pub leading_at : List ℕ → ℕ → ℕ
leading_at bytes place = min (from_be_bytes w128 (bytes_at bytes place 16) / 2 ^ 87) (2 ^ 32 - 1)

-- the bytes hold the records of so many ranks, which meet their equations, and begin where it is
-- said, with means of these leading bits
pub record AreRecords (bytes : List ℕ) (count : ℕ) (offsets leading : List ℕ) : Type 0 where
  pub few : count ≤ 54264
  pub long : board_place count ≤ length bytes
  pub told : count ≤ length offsets
  pub begin : (r : ℕ) → r < count → slice_index offsets r ≡ board_place r
  pub as_many : count ≤ length leading
  pub lead : (r : ℕ) → r < count → slice_index leading r ≡ leading_at bytes (board_place r)
  pub local : AreLocalTo bytes count

-- the mean that is recorded for a rank
abbrev pub board_mean : List ℕ → ℕ → ℕ
board_mean f r = value_of_parts (mean_parts (board_record f r))

-- 21 ranks below one, by the index of the roll
abbrev pub AreBelow : (ℕ → ℕ) → ℕ → Type 0
AreBelow plays count = (i : ℕ) → i < 21 → plays i < count

-- 21 ranks below one, by the index of the roll, each that of a result of its roll
abbrev pub AreResults : Board → (ℕ → ℕ) → Type 0
AreResults x plays =
    (i : ℕ) → i < 21 → (y : Board) × Legal x (roll_at i) y × (rank y ≡ plays i)
