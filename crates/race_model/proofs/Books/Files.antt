-- The book of a file: it meets the equations where the file does.
use Rattle.std.proofs.Common.{ℕ, List}
use Rattle.race_model.specs.Prelude.{Board, whole, IsLocalAt, IsLocalIn, book_of}

-- the local equations of the book, from those of the file
pub local_book : (f : List ℕ) (x : Board) → IsLocalAt f x → IsLocalIn (book_of f) x
unfolding whole
local_book f x here = here

-- the local equations of the file, from those of its book
pub local_file : (f : List ℕ) (x : Board) → IsLocalIn (book_of f) x → IsLocalAt f x
unfolding whole
local_file f x here = here
