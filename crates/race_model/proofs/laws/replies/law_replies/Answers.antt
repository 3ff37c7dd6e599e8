-- A reply is told by the numbers of the book alone, each part of it has one text, and multiples
-- over as many more sequences have the same.
use Rattle.std.proofs.Common.{suc, refl}
use Rattle.race_model.specs.Prelude.{whole, whole_in, book_of, further_by, board_book}
use Rattle.race_model.proofs.Books.Further.{right_further}
use Rattle.race_model.proofs.RightFiles.Right.{short}
use Rattle.race_model.proofs.Replies.OneReply.{one_reply, whole_positive, power_positive}
use Rattle.race_model.proofs.Replies.Kinds.{reply_up, reply_down}
use Rattle.race_model.proofs.Replies.Same.{same_reply_of_files}
use Rattle.race_model.proofs.laws.replies.law_replies.Goals as goal

pub returns : goal.returns
unfolding whole
returns c = record {
  one = λ f. one_reply whole whole_positive (book_of f);
  one_in = λ b. one_reply (whole_in b) (power_positive (suc b.further)) b;
  same = same_reply_of_files;
  kinds =
      λ f g right board same line text alike. (
        reply_up (book_of f) (board_book g) right.book board.book (short f right.file) same 11 refl
            line text alike,
        reply_down (book_of f) (board_book g) right.book board.book (short f right.file) same 11
            refl line text alike,
      );
  book = λ f line text. (λ reply. reply, λ reply. reply);
  further =
      λ f line text right.
      let more = right_further (book_of f) 11 right.book in (
        reply_down (book_of f) (further_by 11 (book_of f)) right.book more (short f right.file)
            (λ x v at low within. refl) 11 refl line text (λ q is. (λ low. low, λ low. low)),
        reply_up (book_of f) (further_by 11 (book_of f)) right.book more (short f right.file)
            (λ x v at low within. refl) 11 refl line text (λ q is. (λ low. low, λ low. low)),
      );
}
