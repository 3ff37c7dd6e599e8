-- By induction on the turns that a game can take, one way; by the plan to play otherwise at one
-- throw, the other; and from any position a game is over within 33 rolls, by its weight.
use Rattle.race_model.proofs.Strategies.Horizons.{ends_in_33, most_rolls-board}
use Rattle.race_model.proofs.Books.FromLocal.{right_of_local, whole_board}
use Rattle.race_model.proofs.Books.FromRight.{local_of_right}
use Rattle.race_model.proofs.RightFiles.Right.{short}
use Rattle.race_model.proofs.Books.Files.{local_book, local_file}
use Rattle.race_model.proofs.laws.books.law_books.Goals as goal

pub returns : goal.returns
returns c = record {
  ends = ends_in_33;
  limit = most_rolls-board;
  right = right_of_local;
  local = local_of_right;
  file = short;
  board = whole_board;
  file_local = λ f x. (local_file f x, local_book f x);
}
