-- There is one built file of a bound, and within the bounds of both it plays as a built database.
use Rattle.std.proofs.Common.{ℕ, ◌≤◌, ◌^◌, List, refl, sym, ◌∙◌, subst, subst₂}
use Rattle.race_model.specs.Prelude.{pips, Version, book_of, board_book, IsBuilt, IsWithinAlike, HasSamePlays}
use Rattle.race_model.proofs.Books.Kinds.{HasBestPlays, further_mean, same_best}
use Rattle.race_model.proofs.Books.OneBook.{one_book}
use Rattle.race_model.proofs.Replies.OneReply.{power_positive}
use Rattle.race_model.proofs.RightFiles.Built.{built_best}
use Rattle.race_model.proofs.RightFiles.Right.{right_of_local, short}
use Rattle.race_model.proofs.RightFiles.SameBytes.{one_board_file}
use Rattle.retrograde.specs.BuiltBoards.{IsBuiltBoard}
use Rattle.retrograde.proofs.laws.law_built_boards.Goals as goal

-- a built board file says the best plays
best : (b : ℕ) (f : List ℕ) → IsBuiltBoard b f → HasBestPlays (board_book f)
best b f built x at low = built.plays x at (subst (λ n. pips x ≤ n) built.bound_is low)

same_plays : (version : Version) (b c : ℕ) (f g : List ℕ) → IsBuilt version b f →
    IsBuiltBoard c g → HasSamePlays (book_of f) (board_book g)
same_plays version b c f g built_f built_g =
    let right = right_of_local f built_f.local in
    same_best (book_of f) (board_book g) (36 ^ 11) (power_positive 11)
    (further_mean (book_of f) (board_book g) right.book built_g.right.book (short f right.file) 11
    refl)
    (built_best version b f built_f)
    (best c g built_g)

pub returns : goal.returns
returns c = record {
  one =
      λ bound f g built_f built_g.
      one_board_file f g built_f.bytes built_g.bytes built_f.right built_g.right
      (one_book (board_book f) (board_book g) built_f.right.book built_g.right.book
      (built_f.bound_is ∙ sym built_g.bound_is) refl (best bound f built_f)
      (best bound g built_g));
  kinds =
      λ version b d f g built_f built_g line text alike.
      c.law_replies.ensures.kinds f g (right_of_local f built_f.local) built_g.right
      (same_plays version b d f g built_f built_g) line text
      (subst₂ (λ m n. IsWithinAlike m n line) (sym built_f.bound_is) (sym built_g.bound_is) alike);
}
