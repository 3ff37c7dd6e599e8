-- Books, and files, that hold the same numbers, or the same plays.
use Rattle.std.specs.Prelude.{◌≡◌, ℕ, suc, ◌≤◌, List}
use Rattle.race_model.specs.Positions.{Board, IsPosition, pips}
use Rattle.race_model.specs.Dice.{Throw}
use Rattle.race_model.specs.Books.{Book, mean_in, play_in, share_in}
use Rattle.race_model.specs.Files.{book_of}

-- the same plays, for each position that is within the bounds of both
abbrev pub HasSamePlays : Book → Book → Type 0
HasSamePlays f g = (x : Board) (v : Throw) → IsPosition x → pips x ≤ f.bound → pips x ≤ g.bound →
    play_in f x v ≡ play_in g x v

-- one bound, and for each position within it the same mean, plays and shares
pub record HasSameNumbersIn (f g : Book) : Type 0 where
  pub bound : f.bound ≡ g.bound
  pub means : (x : Board) → IsPosition x → pips x ≤ f.bound → mean_in f x ≡ mean_in g x
  pub plays : (x : Board) (v : Throw) → IsPosition x → pips x ≤ f.bound →
      play_in f x v ≡ play_in g x v
  pub shares : (x : Board) (k : ℕ) → IsPosition x → pips x ≤ f.bound → k ≤ suc f.further →
      share_in f x k ≡ share_in g x k

-- one bound, and the same mean, plays and shares for each position within it, by two files
abbrev pub HasSameNumbers : List ℕ → List ℕ → Type 0
HasSameNumbers f g = HasSameNumbersIn (book_of f) (book_of g)
