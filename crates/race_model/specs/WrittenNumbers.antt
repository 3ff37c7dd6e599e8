-- In which way the numbers of a board file have to be written, of two parts each: there is one way
-- for each number.
use Rattle.std.specs.Prelude.{ℕ, ◌^◌, ◌<◌, ◌≤◌, List}
use Rattle.race_model.specs.Positions.{Board, pips}
use Rattle.race_model.specs.Ranks.{rank}
use Rattle.race_model.specs.Horizon.{most_rolls}
use Rattle.race_model.specs.BoardFiles.{board_record, mean_parts, count_parts}

-- the lower part of a mean is less than one of the upper part
abbrev pub IsMeanWritten : List ℕ → Board → Type 0
IsMeanWritten f x = (mean_parts (board_record f (rank x))).lower < 36 ^ 11

-- the lower part of a count of k throws, where it has two, is less than one of the upper part
abbrev pub IsCountWritten : List ℕ → Board → ℕ → Type 0
IsCountWritten f x k =
    11 < k → k ≤ most_rolls (pips x) →
    (count_parts (board_record f (rank x)) k).lower < 36 ^ 11

-- the numbers of a position are written in the one way that is allowed
pub record IsWritten (f : List ℕ) (x : Board) : Type 0 where
  pub mean : IsMeanWritten f x
  pub counts : (k : ℕ) → k ≤ 33 → IsCountWritten f x k
