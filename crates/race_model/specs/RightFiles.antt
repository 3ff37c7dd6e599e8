-- What it means that a file is right, of whichever version: it has the form of its version, its
-- numbers are written in the one way that is allowed, and its book is right. Source: the GNU
-- Backgammon manual for what a one-sided database is; the rest is this project's profile.
use Rattle.std.specs.Prelude.{Bool, true, false, ℕ, ◌≤◌, ◌==◌, List}
use Rattle.std.specs.Int.{w16, from_be_bytes}
use Rattle.race_model.specs.Positions.{Board, IsPosition, pips}
use Rattle.race_model.specs.Strategies.{Strategy}
use Rattle.race_model.specs.Books.{Book, follow_in, IsRightIn, IsRightBook}
use Rattle.race_model.specs.Versions.{Version}
use Rattle.race_model.specs.Files.{Layout, IsFileBy, bytes_at, version_of, bound_of, layout_of, book_of}
use Rattle.race_model.specs.BoardFiles.{board_layout, board_book}
use Rattle.race_model.specs.WrittenNumbers.{IsWritten}

-- a kind of file: its layout, how the numbers of a position have to be written, and what it says
pub record Kind : Type 1 where
  pub layout : Layout
  pub written : List ℕ → Board → Type 0
  pub book : List ℕ → Book

-- a database of a version, which has one way to write a number anyhow
abbrev pub database : Version → Kind
database version =
    record { layout = layout_of version; written = λ f x. Unit {0}; book = book_of }

-- a board file
abbrev pub board : Kind
board = record { layout = board_layout; written = IsWritten; book = board_book }

-- the kind by whether it is that of board files, and else by the version of a database
abbrev pub kind_by : Bool → Version → Kind
kind_by true version = board
kind_by false version = database version

-- the kind that a header states: that of board files where its version is 3
unfoldable pub kind_of : List ℕ → Kind
kind_of f = kind_by (from_be_bytes w16 (bytes_at f 8 2) == 3) (version_of f)

-- a right file of a kind: all that it says of each position of at most its bound is so
pub record IsRightBy (kind : Kind) (f : List ℕ) : Type 0 where
  pub file : IsFileBy kind.layout f
  pub written : (x : Board) → IsPosition x → pips x ≤ bound_of f → kind.written f x
  pub book : IsRightBook (kind.book f)

-- a right file
abbrev pub IsRight : List ℕ → Type 0
IsRight f = IsRightBy (kind_of f) f

-- a right database, of version 1 or 2
abbrev pub IsRightDatabase : List ℕ → Type 0
IsRightDatabase f = IsRightBy (database (version_of f)) f

-- a right board file, of version 3
abbrev pub IsRightBoard : List ℕ → Type 0
IsRightBoard = IsRightBy board

-- the strategy that plays what a database records, for at most n turns
abbrev pub follow : List ℕ → ℕ → Board → Strategy
follow f = follow_in (book_of f)

-- all that its record says of a position is so
abbrev pub IsRightAt : List ℕ → Board → Type 0
IsRightAt f = IsRightIn (book_of f)
