-- By induction on the strategy, and for the book by leaving out a power of 36 on both sides.
use Rattle.race_model.proofs.Books.Endings.{count_over-endings, endings-turn, share_is_count, counts_are_endings}
use Rattle.race_model.proofs.laws.books.law_endings.Goals as goal

pub returns : goal.returns
returns c = record {
  strategy = count_over-endings;
  added = endings-turn;
  equation = share_is_count;
  right = counts_are_endings;
}
