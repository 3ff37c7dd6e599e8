-- The checker's view of a board file: the equations are those of its book, and each number is
-- written in the one way that is allowed.
use Rattle.std.specs.Prelude.{ℕ, List}
use Rattle.race_model.specs.Positions.{Board}
use Rattle.race_model.specs.Dice.{roll_at}
use Rattle.race_model.specs.Ranks.{at_rank}
use Rattle.race_model.specs.Books.{IsPlayedIn, whole_in}
use Rattle.race_model.specs.LocalEquations.{IsBestIn, HasMeanIn, HasShareIn, IsLocalIn, IsLocalBy}
use Rattle.race_model.specs.FirstFault.{Test, play_test, least_test, mean_test, spread_test, AsksIn, IsFirstFailing}
use Rattle.race_model.specs.BoardFiles.{board_book}
use Rattle.race_model.specs.WrittenNumbers.{IsMeanWritten, IsCountWritten, IsWritten}
use Rattle.race_model.specs.RightFiles.{board}

-- a question about the record of a rank is answered yes
abbrev pub HoldsOnBoard : List ℕ → Test → Type 0
HoldsOnBoard f (play_test rank roll) = IsPlayedIn (board_book f) (at_rank rank) (roll_at roll)
HoldsOnBoard f (least_test rank roll) = IsBestIn (board_book f) (at_rank rank) (roll_at roll)
HoldsOnBoard f (mean_test rank) =
    IsMeanWritten f (at_rank rank) × HasMeanIn (board_book f) (at_rank rank)
HoldsOnBoard f (spread_test rank k) =
    IsCountWritten f (at_rank rank) k × HasShareIn (board_book f) (at_rank rank) k

-- all questions about a board file
abbrev pub AsksOnBoard : List ℕ → Test → Type 0
AsksOnBoard f = AsksIn (board_book f)

-- of all questions about a board file this is the first whose answer is no
abbrev pub IsFirstBoardFault : List ℕ → Test → Type 0
IsFirstBoardFault f = IsFirstFailing (AsksOnBoard f) (HoldsOnBoard f)

-- the numbers of a position are written so, and meet the equations
pub record IsLocalOnBoard (f : List ℕ) (x : Board) : Type 0 where
  pub written : IsWritten f x
  pub equations : IsLocalIn (board_book f) x

-- a locally right board file
abbrev pub IsLocalBoard : List ℕ → Type 0
IsLocalBoard f = IsLocalBy (whole_in (board_book f)) board f
