-- The equations of a position are about its numbers alone, and the bytes follow from the numbers.
use Rattle.race_model.proofs.RightFiles.SameNumbers.{right_of_same, same_back, one_upgrade}
use Rattle.race_model.proofs.Replies.Same.{same_reply_of_files}
use Rattle.race_model.proofs.laws.right_files.law_upgrade.Goals as goal

pub returns : goal.returns
returns c = record {
  right = right_of_same;
  one = one_upgrade;
  replies =
      λ f g right up line text. (
        same_reply_of_files f g right up.right up.same line text,
        same_reply_of_files g f up.right right (same_back f g up.same) line text,
      );
}
