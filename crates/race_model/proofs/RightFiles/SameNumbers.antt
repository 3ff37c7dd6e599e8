-- A file that holds the numbers of a right file is right, and so is the upgrade of one.
use Rattle.std.proofs.Common.{◌≡◌, ℕ, ◌≤◌, List, refl, sym, ap, subst, ◌∙◌}
use Rattle.race_model.specs.Prelude.{Board, IsPosition, pips, Legal, rank, at_rank, IsFile, bound_of, book_of, Fits}
use Rattle.race_model.specs.Prelude.{total, count_of, IsLeast, follow, IsRightDatabase, IsRightAt, HasSameNumbers}
use Rattle.race_model.specs.Prelude.{IsUpgrade}
use Rattle.race_model.proofs.Books.Kinds.{same_follow}
use Rattle.race_model.proofs.RightFiles.SameBytes.{one_file}

-- a file that holds the numbers of a right one is right
pub right_of_same : (f g : List ℕ) → IsRightDatabase f → IsFile g → HasSameNumbers f g →
    IsRightDatabase g
right_of_same f g right file same = record {
  file = file;
  written = λ x at low. tt;
  book = λ x at low. right_here x at (subst (λ b. pips x ≤ b) (sym same.bound) low);
} where
  right_here : (x : Board) → IsPosition x → pips x ≤ bound_of f → IsRightAt g x
  right_here x at low = record {
    played = λ v. record {
      ranked = subst (λ r. rank (at_rank r) ≡ r) (same.plays x v at low) (here.played v).ranked;
      legal = subst (λ r. Legal x v (at_rank r)) (same.plays x v at low) (here.played v).legal;
    };
    fits = subst (λ s. Fits s x) follows here.fits;
    mean_is = ap total (sym follows) ∙ here.mean_is ∙ same.means x at low;
    least = subst (IsLeast x) (same.means x at low) here.least;
    spread_is =
        λ k le.
        sym (same.shares x k at low le) ∙ here.spread_is k le ∙ ap (λ s. count_of s k) follows;
  } where
    here : IsRightAt f x
    here = right.book x at low

    follows : follow f 22 x ≡ follow g 22 x
    follows =
        same_follow (book_of f) (book_of g) (bound_of f) (λ y is under.
        (right.book y is under).played) same.plays
        22 x at low

-- a file holds its own numbers
same_as_itself : (f : List ℕ) → HasSameNumbers f f
same_as_itself f = record {
  bound = refl;
  means = λ x at low. refl;
  plays = λ x v at low. refl;
  shares = λ x k at low few. refl;
}

-- two files that hold the numbers of one hold the same numbers
same_of_both : (f g h : List ℕ) → HasSameNumbers f g → HasSameNumbers f h → HasSameNumbers g h
same_of_both f g h one other = record {
  bound = sym one.bound ∙ other.bound;
  means = λ x at low. sym (one.means x at (lower x low)) ∙ other.means x at (lower x low);
  plays = λ x v at low. sym (one.plays x v at (lower x low)) ∙ other.plays x v at (lower x low);
  shares =
      λ x k at low few.
      sym (one.shares x k at (lower x low) few) ∙ other.shares x k at (lower x low) few;
} where
  lower : (x : Board) → pips x ≤ bound_of g → pips x ≤ bound_of f
  lower x low = subst (λ b. pips x ≤ b) (sym one.bound) low

-- where one file holds the numbers of another, so does that one of the first
pub same_back : (f g : List ℕ) → HasSameNumbers f g → HasSameNumbers g f
same_back f g same = same_of_both f g f same (same_as_itself f)

-- a file has one upgrade
pub one_upgrade : (f g h : List ℕ) → IsUpgrade f g → IsUpgrade f h → g ≡ h
one_upgrade f g h one other =
    one_file g h one.bytes other.bytes one.right.file other.right.file
    (one.version_is ∙ sym other.version_is) (same_of_both f g h one.same other.same)
