-- Two right files that record the same plays give the same reply to each line.
use Rattle.std.proofs.Common.{ℕ, ◌≤◌, List, refl, sym, subst}
use Rattle.race_model.specs.Prelude.{pips, subject, whole, IsRightDatabase, book_of, HasSameNumbers, IsReply}
use Rattle.race_model.proofs.RightFiles.Right.{short}
use Rattle.race_model.proofs.Replies.Kinds.{reply_up}

pub same_reply_of_files : (f g : List ℕ) → IsRightDatabase f → IsRightDatabase g →
    HasSameNumbers f g →
    (line text : List ℕ) → IsReply f line text → IsReply g line text
unfolding whole
same_reply_of_files f g right_f right_g same line text =
    reply_up (book_of f) (book_of g) right_f.book right_g.book (short f right_f.file)
    (λ x v at low _. same.plays x v at low) 0 refl line text
    (λ q is. (
      subst (λ b. pips (subject q) ≤ b) same.bound,
      subst (λ b. pips (subject q) ≤ b) (sym same.bound),
    ))
