-- Two right books of one bound whose plays are the best ones hold the same numbers: the means are
-- the least, of the plays to them that of lowest rank is said, and the shares are those of the
-- plays.
use Rattle.std.proofs.Common.{◌≡◌, ℕ, suc, ◌≤◌, ap, sym, subst, ◌∙◌, arith}
use Rattle.race_model.specs.Prelude.{Board, IsPosition, pips, Throw, IsLeastIn, count_over, Book, mean_in, play_in}
use Rattle.race_model.specs.Prelude.{share_in, follow_in, IsRightBook, HasSameNumbersIn}
use Rattle.race_model.proofs.Strategies.LeastExists.{least_in_agree}
use Rattle.race_model.proofs.Books.Kinds.{HasBestPlays, same_best, same_follow}

module _ (f g : Book) (right_f : IsRightBook f) (right_g : IsRightBook g)
    (bound : f.bound ≡ g.bound) (further : f.further ≡ g.further) (best_f : HasBestPlays f)
    (best_g : HasBestPlays g) where
  under : (x : Board) → pips x ≤ f.bound → pips x ≤ g.bound
  under x low = subst (λ b. pips x ≤ b) bound low

  means : (x : Board) → IsPosition x → pips x ≤ f.bound → mean_in f x ≡ mean_in g x
  means x at low =
      least_in_agree (suc f.further) x (mean_in f x) (mean_in g x) (right_f x at low).least
      (subst (λ n. IsLeastIn (suc n) x (mean_in g x)) (sym further)
      (right_g x at (under x low)).least)

  plays : (x : Board) (v : Throw) → IsPosition x → pips x ≤ f.bound → play_in f x v ≡ play_in g x v
  plays x v at low =
      same_best f g 1 (omega arith)
      (λ y is below _. let e = means y is below in omega arith) best_f best_g x v at low
      (under x low)

  shares : (x : Board) (k : ℕ) → IsPosition x → pips x ≤ f.bound → k ≤ suc f.further →
      share_in f x k ≡ share_in g x k
  shares x k at low le =
      (right_f x at low).spread_is k le
      ∙ ap (λ s. count_over (suc f.further) s k)
      (same_follow f g f.bound (λ y is low. (right_f y is low).played) plays (suc f.further) x at
      low)
      ∙ ap (λ n. count_over (suc n) (follow_in g (suc n) x) k) further
      ∙ sym ((right_g x at (under x low)).spread_is k (subst (λ n. k ≤ suc n) further le))

  pub one_book : HasSameNumbersIn f g
  one_book = record { bound = bound; means = means; plays = plays; shares = shares }
