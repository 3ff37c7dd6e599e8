-- By the strategy that plays what the book says, which is the same over more throws.
use Rattle.std.proofs.Common.{refl}
use Rattle.race_model.proofs.Books.Further.{right_further, long_further}
use Rattle.race_model.proofs.laws.books.law_further.Goals as goal

pub returns : goal.returns
returns c = record { right = right_further; long = long_further; file = λ f. refl }
