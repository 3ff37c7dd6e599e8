-- The moves of a play, and the results of a roll, as C has them.
use Rattle.std.specs.Prelude.{◌≡◌, ◌⊎◌, ℕ, ◌≤◌, List, length, map, All, take, drop, slice_index_or}
use Rattle.race_model.specs.Prelude.{Board, Throw, IsFraction, Book, whole_in, loss_in, IsMoveListIn}
use Rattle.bearoff_c.specs.declared.calls.choices.Choice.{Choice}
use Rattle.bearoff_c.specs.Longs.{long_number_of}
use Rattle.bearoff_c.specs.declared.calls.plays.Move.{Move}
use Rattle.bearoff_c.specs.declared.calls.plays.RecordedPlay.{RecordedPlay}

-- the positions of results
abbrev pub places_of : List Choice → List Board
places_of choices = map (λ choice. choice.to.points) choices

-- the loss of a result is what its position costs, over a whole
abbrev pub HasCost : ℕ → (Board → ℕ) → Choice → Type 0
HasCost whole cost choice = IsFraction (cost choice.to.points) whole
    (long_number_of choice.loss.numerator) (long_number_of choice.loss.denominator)

-- the results are every position that the throw leads to, once, by rising loss and then by rising
-- rank, each with its loss
pub record IsChoiceList (b : Book) (x : Board) (v : Throw) (choices : List Choice) : Type 0
  where
    pub listed : IsMoveListIn b x v (places_of choices)
    pub losses : All (HasCost (whole_in b) (loss_in b x v)) choices

-- there are so many positions that the throw leads to: a list has each of them once
pub record IsChoiceCount (b : Book) (x : Board) (v : Throw) (n : ℕ) : Type 0 where
  pub found : List Board
  pub listed : IsMoveListIn b x v found
  pub count_is : n ≡ length found

-- by its status a list of moves stands in front of a room, whose rest stays; or it has no room, and
-- only its length is told; else the room is as it was
pub record TellsMoves (b : Book) (x : Board) (v : Throw) (old new : List Choice) (count : ℕ)
    (status : ℕ) : Type 0 where
  pub listed : status ≡ 0 → IsChoiceList b x v (take count new)
  pub counted : status ≡ 0 → count ≤ length old
  pub rest : status ≡ 0 → drop count new ≡ drop count old
  pub told : status ≡ 8 → IsChoiceCount b x v count
  pub most : (status ≡ 0) ⊎ (status ≡ 8) → count ≤ 127
  pub left : ¬ (status ≡ 0) → new ≡ old

-- the moves, each by its two points: as many as are counted
abbrev pub moves_in : RecordedPlay → List (ℕ × ℕ)
moves_in play = map (λ m. (m.from, m.to)) (take play.count play.moves)

-- the zeros that stand where there is no move
abbrev pub no_move : Move
no_move = record { from = 0; to = 0 }

-- after the first n moves there is none
abbrev pub AreZerosAfter : ℕ → List Move → Type 0
AreZerosAfter n moves = (i : ℕ) → n ≤ i → slice_index_or moves i no_move ≡ no_move
