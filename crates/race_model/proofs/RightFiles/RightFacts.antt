-- What follows of a right file, as it does of its book: its means are those of every other, its
-- shares add up, and a loss is what a play costs.
use Rattle.std.proofs.Common.{◌≡◌, ℕ, ◌≤◌, List, sum_by}
use Rattle.std.specs.List.{range_with_len}
use Rattle.race_model.specs.Prelude.{Board, IsPosition, pips, Throw, Legal, bound_of, mean, mean_at, play, spread}
use Rattle.race_model.specs.Prelude.{book_of, whole, IsRightDatabase, IsLoss, loss}
use Rattle.race_model.proofs.Strategies.LeastExists.{least_in_agree}
use Rattle.race_model.proofs.Books.Losses as books
use Rattle.race_model.proofs.RightFiles.Right.{short}

-- two right files agree on the mean of each position of both
pub means_agree : (f g : List ℕ) → IsRightDatabase f → IsRightDatabase g → (x : Board) →
    IsPosition x → pips x ≤ bound_of f → pips x ≤ bound_of g → mean f x ≡ mean g x
means_agree f g right_f right_g x at low_f low_g =
    least_in_agree 22 x (mean f x) (mean g x) (right_f.book x at low_f).least
    (right_g.book x at low_g).least

-- a position of at most the bound
module _ (f : List ℕ) (right : IsRightDatabase f) (x : Board)
    (at : IsPosition x) (low : pips x ≤ bound_of f) where
  -- the recorded shares add up to the whole
  pub shares_add_up : sum_by (spread f x) (range_with_len 0 23) ≡ whole
  unfolding whole
  shares_add_up = books.shares_add_up (book_of f) right.book (short f right.file) x at low

  -- what is recorded for a throw is the least of its results
  pub recorded_least : (v : Throw) (y : Board) → Legal x v y → mean_at f (play f x v) ≤ mean f y
  recorded_least = books.recorded_least (book_of f) right.book (short f right.file) x at low

  -- the loss by the file is the loss
  pub loss_is_loss : (v : Throw) (y : Board) → Legal x v y → IsLoss x v y (loss f x v y)
  loss_is_loss = books.loss_is_loss (book_of f) right.book (short f right.file) x at low
