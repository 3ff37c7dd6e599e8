-- The built board file of a bound. Source: the tie rule is this project's profile.
use Rattle.std.specs.Prelude.{◌≡◌, ℕ, ◌<◌, ◌≤◌, List}
use Rattle.race_model.specs.Prelude.{Board, IsPosition, pips, Throw, IsRoll, rank, count_to, IsBestPlay, IsBytes}
use Rattle.race_model.specs.Prelude.{bound_of, play_in, board_book, board_place, IsRightBoard}
use Rattle.db_layout.specs.LowerRecords.{AreLocalTo}
use Rattle.retrograde.specs.declared.board_build_fault.BoardBuildFault.{BoardBuildFault}
use Rattle.retrograde.specs.declared.board_build_fault.BoardBuildFault.TheVariants.{OverBound, Room}

-- what the bytes say of a roll is the best play: of the results of least mean that of lowest rank
abbrev pub PlaysBest : List ℕ → Board → Type 0
PlaysBest f x = (v : Throw) → IsRoll v →
    IsBestPlay (board_book f).means x v (play_in (board_book f) x v)

-- the records of the ranks below one are those of the built file
pub record IsBuiltTo (f : List ℕ) (n : ℕ) : Type 0 where
  pub local : AreLocalTo f n
  pub plays : (x : Board) → IsPosition x → rank x < n → PlaysBest f x

-- a file of bytes has that bound and is right, and its plays are the best ones
pub record IsBuiltBoard (bound : ℕ) (f : List ℕ) : Type 0 where
  pub bytes : IsBytes f
  pub bound_is : bound_of f ≡ bound
  pub right : IsRightBoard f
  pub plays : (x : Board) → IsPosition x → pips x ≤ bound → PlaysBest f x

-- why the file of a bound isn't built in a room of so many bytes
abbrev pub IsBoardRefusedBy : ℕ → ℕ → BoardBuildFault → Type 0
IsBoardRefusedBy bound size OverBound = 90 < bound
IsBoardRefusedBy bound size Room = (bound ≤ 90) × (size < board_place (count_to bound))
