-- A board file is locally right exactly where it is right, since its book is. Its shares are those
-- that its counts tell, so the equation of shares says what that of counts says.
use Rattle.std.proofs.Common.{◌≡◌, ℕ, ◌+◌, ◌*◌, ◌-◌, ◌^◌, ◌≤◌, ◌↔◌, List, refl, ap, arith}
use Rattle.race_model.specs.Prelude.{Board, IsPosition, pips, rank, bound_of, follow_in, HasShareIn, HasLeastMeanIn}
use Rattle.race_model.specs.Prelude.{endings, IsCounted, HasCountIn, board_book, count_at, IsWritten, IsRightBoard}
use Rattle.race_model.specs.Prelude.{IsLocalOnBoard, IsLocalBoard}
use Rattle.race_model.proofs.Books.FromLocal.{right_of_local, whole_board}
use Rattle.race_model.proofs.Books.FromRight.{local_of_right}
use Rattle.race_model.proofs.Books.Endings.{share_is_count, counts_are_endings}

-- the shares of the book are those that the counts tell
pub board_counted : (f : List ℕ) → IsCounted (board_book f) (count_at f)
board_counted f r k further e =
    ap (λ n. count_at f r k * 36 ^ n) (left k further e)
  where
    left : (k further : ℕ) → k + further ≡ 33 → 33 - k ≡ further
    left k further e = omega arith

-- so their equation says what that of counts says
pub board_share_is_count : (f : List ℕ) (x : Board) (k : ℕ) → k ≤ 33 →
    HasShareIn (board_book f) x k ↔ HasCountIn (board_book f) (count_at f) x k
board_share_is_count f = share_is_count (board_book f) (count_at f) (board_counted f)

-- the counts of a position that meets its equations meet theirs
pub counts_of_local : (f : List ℕ) (x : Board) → IsLocalOnBoard f x → (k : ℕ) → k ≤ 33 →
    HasCountIn (board_book f) (count_at f) x k
counts_of_local f x here k le = (board_share_is_count f x k le).0 (here.equations.shares k le)

-- a position whose counts meet their equations meets its own
pub local_of_counts : (f : List ℕ) (x : Board) → IsWritten f x → HasLeastMeanIn (board_book f) x →
    ((k : ℕ) → k ≤ 33 → HasCountIn (board_book f) (count_at f) x k) → IsLocalOnBoard f x
local_of_counts f x written means counts = record {
  written = written;
  equations = record {
    means = means;
    shares = λ k le. (board_share_is_count f x k le).1 (counts k le);
  };
}

-- a board file that meets the equations is right
pub right_board : (f : List ℕ) → IsLocalBoard f → IsRightBoard f
right_board f local = record {
  file = local.file;
  written = local.written;
  book = right_of_local (board_book f) (whole_board (board_book f) refl) local.at_each;
}

-- a right board file meets the equations
pub local_board : (f : List ℕ) → IsRightBoard f → IsLocalBoard f
local_board f right = record {
  file = right.file;
  written = right.written;
  at_each = local_of_right (board_book f) (whole_board (board_book f) refl) right.book;
}

-- its counts are those of the strategy that plays what is recorded
pub board_counts : (f : List ℕ) → IsRightBoard f → (x : Board) → IsPosition x →
    pips x ≤ bound_of f → (k : ℕ) → k ≤ 33 →
    count_at f (rank x) k ≡ endings (follow_in (board_book f) 33 x) k
board_counts f right x at low k le =
    counts_are_endings (board_book f) (count_at f) (board_counted f) right.book x at low k le
