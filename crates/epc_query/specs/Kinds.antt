-- What the bytes of a file of a kind say, and when it is right.
use Rattle.std.specs.Prelude.{◌≡◌, ◌^◌, ◌==◌, if◌then◌else◌, ℕ, suc, List}
use Rattle.std.specs.Int.{w16, from_be_bytes}
use Rattle.race_model.specs.Prelude.{Book, further_by, board_book, book_of, bound_of, bytes_at, version_of, kind_of}
use Rattle.race_model.specs.Prelude.{IsRightDatabase, IsRightBoard, version_number}
use Rattle.db_layout.specs.declared.stated.Kind.{Kind}
use Rattle.db_layout.specs.declared.stated.Kind.TheVariants.{Database, Board}
use Rattle.certificate.specs.declared.check_fault.CheckFault.{CheckFault}
use Rattle.certificate.specs.CheckFaults.{IsFirst, IsFirstOnBoard}
use Rattle.epc_query.specs.declared.opened.Accepted.{Accepted}

-- the version that a header states, 3 for a board file
abbrev pub version_in : List ℕ → ℕ
version_in f = from_be_bytes w16 (bytes_at f 8 2)

-- the kind that the header of a file states: a board file where its version is 3, and else a
-- database
unfoldable pub stated_kind : List ℕ → Kind
stated_kind f = if version_in f == 3 then Board else Database

-- what the bytes of a file of this kind say
abbrev pub book_as : Kind → List ℕ → Book
book_as Database = book_of
book_as Board = board_book

-- they are a right file of this kind
abbrev pub IsRightAs : Kind → List ℕ → Type 0
IsRightAs Database = IsRightDatabase
IsRightAs Board = IsRightBoard

-- the first fault of a file of this kind
abbrev pub IsFirstAs : Kind → List ℕ → CheckFault → Type 0
IsFirstAs Database = IsFirst
IsFirstAs Board = IsFirstOnBoard

-- their version
abbrev pub version_as : Kind → List ℕ → ℕ
version_as Database f = version_number (version_of f)
version_as Board f = 3

-- they are right, and this is kept of them
pub record IsAcceptedAs (kind : Kind) (f : List ℕ) (kept : Accepted) : Type 0 where
  pub right : IsRightAs kind f
  pub version : kept.version ≡ version_as kind f
  pub bound : kept.bound ≡ bound_of f

-- what a file says, which is the book of the kind that its header states
abbrev pub file_book : List ℕ → Book
file_book f = (kind_of f).book f

-- what an opened file says, which is a kind and bytes
abbrev pub book_by : Kind × List ℕ → Book
book_by opened = book_as opened.0 opened.1

-- the most rolls that a book counts over, which are 22 for a database and 33 for a board file
abbrev pub rolls_in : Book → ℕ
rolls_in b = suc b.further

-- what the bytes of a file of this kind say over 33 throws
abbrev pub long_as : Kind → List ℕ → Book
long_as Database f = further_by 11 (book_of f)
long_as Board f = board_book f

-- what an opened file says over 33 throws
abbrev pub long_by : Kind × List ℕ → Book
long_by opened = long_as opened.0 opened.1

-- how often that counts each number of a file of this kind
abbrev pub scale_as : Kind → ℕ
scale_as Database = 36 ^ 11
scale_as Board = 1
