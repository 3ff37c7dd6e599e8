-- What is known of an open file of any version, and the book that it says.
use Rattle.std.proofs.Common.{◌≡◌, ◌<◌, ◌≤◌, ◌^◌, ◌==◌, if◌then◌else◌, ℕ, Bool, true, false, List}
use Rattle.std.proofs.Common.{refl, sym, ap, subst, ◌∙◌, arith, eq-eqb, ne_eqb}
use Rattle.race_model.specs.Prelude.{Version, full, compact, version_number, IsRightBook, version_of, bound_of}
use Rattle.race_model.specs.Prelude.{layout_of, book_of, IsLong, board_layout, board_book, kind_by, kind_of, IsRightBy}
use Rattle.race_model.specs.Prelude.{IsRight, IsRightDatabase, IsRightBoard}
use Rattle.race_model.proofs.Books.FromLocal.{whole_board}
use Rattle.race_model.proofs.FirstFaults.HeaderFacts.{stated_number}
use Rattle.race_model.proofs.RightFiles.Right.{short}
use Rattle.db_layout.specs.declared.stated.Kind.{Kind}
use Rattle.db_layout.specs.declared.stated.Kind.TheVariants.{Database, Board}
use Rattle.epc_query.specs.Kinds.{book_as, book_by, file_book, stated_kind, version_as, version_in, IsRightAs}

-- a file whose header doesn't state the version 3 says what it does as a database
pub database_book : (f : List ℕ) → ¬ (version_in f ≡ 3) → book_of f ≡ file_book f
unfolding kind_of
database_book f other =
    sym (ap (λ b. (kind_by b (version_of f)).book f) (ne_eqb (version_in f) 3 other))

-- a file whose header states the version 3 says what it does as a board file
pub board_file_book : (f : List ℕ) → version_in f ≡ 3 → board_book f ≡ file_book f
unfolding kind_of
board_file_book f is =
    sym (ap (λ b. (kind_by b (version_of f)).book f) (eq-eqb (version_in f) 3 is))

-- what an opened file says, by its kind and its bytes
pub opened_book : (inside opened : Kind × List ℕ) (kind : Kind) → inside ≡ opened →
    opened.0 ≡ kind → book_by opened ≡ book_as kind inside.1
opened_book inside opened kind view is = sym (ap book_by view)
    ∙ ap (λ kind. book_as kind inside.1) (ap (λ (it : Kind × List ℕ). it.0) view ∙ is)

-- what a right file of a kind says is a right book
pub right_book : (kind : Kind) (f : List ℕ) → IsRightAs kind f → IsRightBook (book_as kind f)
right_book Database f right = right.book
right_book Board f right = right.book

-- in what a right file of a kind says, no game is longer than what its numbers are counted over
pub long_book : (kind : Kind) (f : List ℕ) → IsRightAs kind f → IsLong (book_as kind f)
long_book Database f right = short f right.file
long_book Board f right = whole_board (board_book f) refl

-- the bound of a right file of a kind is at most that of the whole board
pub most_bound : (kind : Kind) (f : List ℕ) → IsRightAs kind f → bound_of f ≤ 90
most_bound Database f right = low (version_of f) right.file.bounded where
  low : (version : Version) → bound_of f ≤ (layout_of version).greatest → bound_of f ≤ 90
  low full le = omega (arith, le)
  low compact le = omega (arith, le)
most_bound Board f right = right.file.bounded

-- the numbers of the versions have two bytes
two_bytes : (version : Version) → version_number version < 2 ^ 16
two_bytes full = omega arith
two_bytes compact = omega arith

-- the header of a right database states its version
pub database_version : (f : List ℕ) → IsRightDatabase f →
    version_in f ≡ version_number (version_of f)
database_version f right =
    stated_number (layout_of (version_of f)) (two_bytes (version_of f)) f right.file

-- the header of a right board file states its version
pub board_version : (f : List ℕ) → IsRightBoard f → version_in f ≡ 3
board_version f right = stated_number board_layout (omega arith) f right.file

-- a file is right where it is right as the kind that its header states
pub right_stated : (f : List ℕ) → IsRightAs (stated_kind f) f → IsRight f
unfolding kind_of stated_kind
right_stated f = by (version_in f == 3) where
  by : (is : Bool) → IsRightAs (if is then Board else Database) f
      → IsRightBy (kind_by is (version_of f)) f
  by true right = right
  by false right = right

-- a right file is right as the kind that its header states
pub stated_right : (f : List ℕ) → IsRight f → IsRightAs (stated_kind f) f
unfolding kind_of stated_kind
stated_right f = by (version_in f == 3) where
  by : (is : Bool) → IsRightBy (kind_by is (version_of f)) f
      → IsRightAs (if is then Board else Database) f
  by true right = right
  by false right = right

-- a file says what it does as the kind that its header states
pub stated_book : (f : List ℕ) → book_as (stated_kind f) f ≡ file_book f
unfolding kind_of stated_kind
stated_book f = by (version_in f == 3) where
  by : (is : Bool) → book_as (if is then Board else Database) f ≡ (kind_by is (version_of f)).book f
  by true = refl
  by false = refl

-- what a right file of a kind says is what its header states
pub right_file_book : (kind : Kind) (f : List ℕ) → IsRightAs kind f → book_as kind f ≡ file_book f
right_file_book Database f right =
    database_book f (λ is. other (version_of f) (sym (database_version f right) ∙ is)) where
      other : (version : Version) → ¬ (version_number version ≡ 3)
      other full is = omega (arith, is)
      other compact is = omega (arith, is)
right_file_book Board f right = board_file_book f (board_version f right)

-- the version of a right file of a kind is the one that its header states
pub right_version : (kind : Kind) (f : List ℕ) → IsRightAs kind f → version_as kind f ≡ version_in f
right_version Database f right = sym (database_version f right)
right_version Board f right = sym (board_version f right)

-- what an opened file says is what its header states
pub opened_file : (inside opened : Kind × List ℕ) → inside ≡ opened →
    IsRightAs inside.0 inside.1 → book_by opened ≡ file_book opened.1
opened_file inside opened view right =
    subst (λ (it : Kind × List ℕ). book_by it ≡ file_book it.1) view
    (right_file_book inside.0 inside.1 right)
