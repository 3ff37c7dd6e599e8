-- By induction on the turns that a game can take;
-- each share is at most the weighted mean of shares.
use Rattle.race_model.specs.Prelude.{book_of, whole}
use Rattle.race_model.proofs.Strategies.Horizons.{ends_in_22}
use Rattle.race_model.proofs.RightFiles.Bounded.{mean_at_most}
use Rattle.race_model.proofs.Books.Bounded.{share-in_whole}
use Rattle.race_model.proofs.laws.numbers.law_bounds.Goals as goal

pub returns : goal.returns
returns c = record {
  mean = λ f x at low local. mean_at_most f 22 x (ends_in_22 x at low) at local;
  share = λ f x k few at local. share-in_whole whole (book_of f) k x few at local;
}
