-- The local equations hold of a file exactly where it is right, since they do of its book.
use Rattle.std.proofs.Common.{ℕ, ◌≤◌, List, le_trans, arith}
use Rattle.race_model.specs.Prelude.{Board, IsPosition, pips, Version, full, compact, greatest_bound, IsFile}
use Rattle.race_model.specs.Prelude.{version_of, bound_of, IsLocalDatabase, EndsIn, IsRightDatabase, book_of}
use Rattle.race_model.proofs.Strategies.Horizons.{ends_in_22}
use Rattle.race_model.proofs.Books.FromLocal as from_local
use Rattle.race_model.proofs.Books.FromRight as from_right
use Rattle.race_model.proofs.Books.Files.{local_book, local_file}

-- no version has a bound over 58 pips
pub greatest_bound-most : (version : Version) → greatest_bound version ≤ 58
greatest_bound-most full = omega arith
greatest_bound-most compact = omega arith

-- no file has a bound over 58 pips
pub bound_of-most : (f : List ℕ) → IsFile f → bound_of f ≤ 58
bound_of-most f file = le_trans file.bounded (greatest_bound-most (version_of f))

-- a position of at most the bound of a file is over within 22 rolls
pub short : (f : List ℕ) → IsFile f → (x : Board) → IsPosition x → pips x ≤ bound_of f →
    EndsIn 22 x
short f file x at low = ends_in_22 x at (le_trans low (bound_of-most f file))

-- a file that meets the local equations is right
pub right_of_local : (f : List ℕ) → IsLocalDatabase f → IsRightDatabase f
right_of_local f local = record {
  file = local.file;
  written = local.written;
  book =
      from_local.right_of_local (book_of f) (short f local.file)
      (λ x at low. local_book f x (local.at_each x at low));
}

-- a right file meets the local equations
pub local_of_right : (f : List ℕ) → IsRightDatabase f → IsLocalDatabase f
local_of_right f right = record {
  file = right.file;
  written = right.written;
  at_each =
      λ x at low.
      local_file f x (from_right.local_of_right (book_of f)
      (short f right.file) right.book x at low);
}
