-- The plan that plays to the result at that throw and else
-- as recorded is least just where nothing is lost.
use Rattle.race_model.proofs.Books.Losses.{recorded_least, loss_is_loss, begins, no_loss}
use Rattle.race_model.proofs.laws.books.law_loss.Goals as goal

pub returns : goal.returns
returns c = record {
  least = λ b long right. recorded_least b right long;
  loss = λ b long right. loss_is_loss b right long;
  none =
      λ b long right x at low unfinished v y leads. (
        begins b right long x at low unfinished v y leads,
        λ found. no_loss b right long x at low unfinished v y found.0 found.1 found.2 found.3,
      );
}
