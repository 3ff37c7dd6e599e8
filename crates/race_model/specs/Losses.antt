-- What a play costs against the best one, and the order in which plays are listed: by a book, and
-- by a file, which is its book's.
use Rattle.std.specs.Prelude.{◌≡◌, ℕ, ◌+◌, ◌-◌, ◌<◌, ◌≤◌, ◌⊎◌, ◌↔◌, List, length, slice_index_or, Contains}
use Rattle.race_model.specs.Positions.{Board, finished}
use Rattle.race_model.specs.Dice.{Throw}
use Rattle.race_model.specs.Plays.{Legal}
use Rattle.race_model.specs.Ranks.{rank}
use Rattle.race_model.specs.Strategies.{Strategy, stop, turn, IsLeastIn}
use Rattle.race_model.specs.Books.{Book, mean_in, play_in}
use Rattle.race_model.specs.Files.{book_of}

-- l is the loss of the result y, over all sequences of m throws: the least total after it exceeds
-- by l the least one among all results of the throw
pub record IsLossIn (m : ℕ) (x : Board) (v : Throw) (y : Board) (l : ℕ) : Type 0 where
  pub after : ℕ
  pub best : ℕ
  pub after_is : IsLeastIn m y after
  pub best_reached : (z : Board) × Legal x v z × IsLeastIn m z best
  pub best_least : (z : Board) (t : ℕ) → Legal x v z → IsLeastIn m z t → best ≤ t
  pub loss_is : best + l ≡ after

-- l is the loss of the result y, over all sequences of 22 throws
abbrev pub IsLoss : Board → Throw → Board → ℕ → Type 0
IsLoss = IsLossIn 22

-- the loss by a book, as a numerator over its sequences: the mean after the result less the mean
-- after the recorded play
abbrev pub loss_in : Book → Board → Throw → Board → ℕ
loss_in b x v y = mean_in b y - b.means (play_in b x v)

-- the loss by a file, as a numerator over 36 ^ 22
abbrev pub loss : List ℕ → Board → Throw → Board → ℕ
loss f = loss_in (book_of f)

-- a strategy begins with the play to y where v is thrown
abbrev pub BeginsWith : Strategy → Throw → Board → Type 0
BeginsWith stop v y = ⊥
BeginsWith (turn to next) v y = to v ≡ y

-- a result that is listed before another: of smaller loss, or of equal loss and lower rank
abbrev pub IsListedBeforeIn : Book → Board → Throw → Board → Board → Type 0
IsListedBeforeIn b x v y z =
    (loss_in b x v y < loss_in b x v z) ⊎ ((loss_in b x v y ≡ loss_in b x v z) × (rank y < rank z))

-- the list of moves of a throw: every result, each before those that follow it, so each once
pub record IsMoveListIn (b : Book) (x : Board) (v : Throw) (ys : List Board) : Type 0 where
  pub members : (y : Board) → Contains ys y ↔ Legal x v y
  pub ordered : (i j : ℕ) → i < j → j < length ys →
      IsListedBeforeIn b x v (slice_index_or ys i finished) (slice_index_or ys j finished)

-- the list of moves of a throw by a file
abbrev pub IsMoveList : List ℕ → Board → Throw → List Board → Type 0
IsMoveList f = IsMoveListIn (book_of f)
