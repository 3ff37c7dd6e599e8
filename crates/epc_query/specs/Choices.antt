-- Results of a roll in the order of what they cost.
use Rattle.std.specs.Prelude.{◌≡◌, ℕ, ◌*◌, ◌<◌, ◌≤◌, ◌⊎◌, List, length, slice_index_or}
use Rattle.race_model.specs.Prelude.{Board, Throw, Book, whole_in, IsFraction, whole, loss_in}
use Rattle.fixed_fraction.specs.Board.{board_whole, part}
use Rattle.epc_query.specs.declared.choices.RankedChoice.{RankedChoice}

-- the position that a choice is
abbrev pub result_of : RankedChoice → Board
result_of choice = choice.to

-- a choice of smaller loss comes first, and of equal loss the one of lower rank
abbrev pub ComesFirst : RankedChoice → RankedChoice → Type 0
ComesFirst a b =
    (a.loss < b.loss) ⊎ ((a.loss ≡ b.loss) × (a.rank < b.rank))

-- each comes before those that follow it
pub record IsByLoss (choices : List RankedChoice) : Type 0 where
  pub pairs : (i j : ℕ) (d : RankedChoice) → i < j → j < length choices →
      ComesFirst (slice_index_or choices i d) (slice_index_or choices j d)

-- its loss is a number of at most 22 rolls over 36 ^ 22
abbrev pub IsShort : RankedChoice → Type 0
IsShort choice = (n : ℕ) × (n ≤ 22 * whole) × (choice.loss ≡ n * part)

-- the fraction of its loss over 36 ^ 33 is that of the loss by the book
abbrev pub IsCost : Book → Board → Throw → RankedChoice → Type 0
IsCost b x v choice = (n d : ℕ) → IsFraction choice.loss board_whole n d
    → IsFraction (loss_in b x v choice.to) (whole_in b) n d
