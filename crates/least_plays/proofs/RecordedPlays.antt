-- What is known of what is recorded for a throw, by the best of its results; and what a book says
-- then, whose means are those on all that the throw leads to.
use Rattle.std.proofs.Common.{◌≡◌, ℕ, ◌<◌, ◌≤◌, refl, sym, ap, subst, ⊎_elim, ◌∙◌, arith}
use Rattle.race_model.specs.Prelude.{Board, IsPosition, IsFinished, Throw, roll_at, Legal, rank, at_rank, Book, play_in}
use Rattle.race_model.specs.Prelude.{mean_in, IsPlayedIn, IsBestIn, IsBestPlay}
use Rattle.race_model.proofs.Plays.Results.{legal_position, legal_finished, finished_or_not}
use Rattle.race_model.proofs.Ranks.RankOrder.{at_rank-rank}
use Rattle.race_model.proofs.Ranks.BestPlays.{legal_lower}
use Rattle.least_plays.specs.Recorded.{IsResult, IsLeastOfAll, IsLeastPlay, IsRefused, IsFirstRefused}
use Rattle.least_plays.specs.Recorded.{IsRefusedIn, IsFirstRefusedIn}
use Rattle.least_plays.specs.declared.recorded.PlayFault.{PlayFault}
use Rattle.least_plays.specs.declared.recorded.PlayFault.TheVariants.{NotLegal, NotLeast}
use Rattle.least_plays.specs.declared.recorded.RefusedPlay.{RefusedPlay}

module _ (x : Board) (at : IsPosition x) (v : Throw) where
  -- the rank of a result is the rank of one
  pub result-of_legal : (r : ℕ) → (y : Board) × (Legal x v y) × (rank y ≡ r) → IsResult x v r
  result-of_legal r some =
      let y = some.0 in
      let there : at_rank r ≡ y =
      subst (λ r. at_rank r ≡ y) some.2 (at_rank-rank y (legal_position x v y at some.1)) in
      (subst (Legal x v) (sym there) some.1, subst (λ z. rank z ≡ r) (sym there) some.2)

  -- from the finished position all results are one
  one_result : IsFinished x → (r s : ℕ) → IsResult x v r → IsResult x v s → r ≡ s
  one_result end r s one other =
      sym one.1
      ∙ ap rank (legal_finished x v (at_rank r) end one.0
      ∙ sym (legal_finished x v (at_rank s) end other.0))
      ∙ other.1

  -- so a result beside another has a lower rank
  pub lower_result : (r s : ℕ) → IsResult x v r → IsResult x v s → ¬ (r ≡ s) → r < rank x
  lower_result r s one other apart = ⊎_elim
      (λ end. absurd (apart (one_result end r s one other)))
      (λ unfinished.
      let low = legal_lower x v (at_rank r) at unfinished one.0 in omega (arith, low, one.1))
      (finished_or_not x)

  module _ (mean : ℕ → ℕ) (best : ℕ) (known : IsBestPlay mean x v best) where
    -- the best one is a result
    pub best-result : IsResult x v best
    best-result = result-of_legal best known.reached

    -- and least, as is any other result of no greater mean
    pub least : (r : ℕ) → IsResult x v r → mean r ≤ mean best → IsLeastPlay mean x v r
    least r is within = record {
      result = is;
      least = λ z legal. let low = known.least z legal in omega (arith, low, within);
    }

    pub not_least : (r : ℕ) → mean best < mean r → ¬ IsLeastOfAll mean x v r
    not_least r less = λ all.
        let y = known.reached in
        let low = all y.0 y.1 in
        let there = ap mean y.2 in
        omega (arith, low, there, less)

  -- what is least is so by other means that are the same on all results
  least-agree : (one other : ℕ → ℕ) →
      (¬ IsFinished x → (z : Board) → Legal x v z → one (rank z) ≡ other (rank z)) → (r : ℕ) →
      IsResult x v r → IsLeastOfAll one x v r → IsLeastOfAll other x v r
  least-agree one other agree r is all z legal = ⊎_elim
      (λ end.
      let same = ap other (one_result end r (rank z) is
      (result-of_legal (rank z) (z, legal, refl))) in
      omega (arith, same))
      (λ unfinished.
      let low = all z legal in
      let here = agree unfinished (at_rank r) is.0 in
      let there = agree unfinished z legal in
      let from = ap one is.1 in
      let to = ap other is.1 in
      omega (arith, low, here, there, from, to))
      (finished_or_not x)

  -- what is recorded in a book
  module _ (f : Book) (mean : ℕ → ℕ)
      (agree : ¬ IsFinished x → (z : Board) → Legal x v z → mean (rank z) ≡ f.means (rank z))
      (p : ℕ) (read : p ≡ play_in f x v) where
    is_played : IsResult x v p → IsPlayedIn f x v
    is_played is =
        let there = subst (IsResult x v) read is in
        record { ranked = there.1; legal = there.0 }

    pub held : IsLeastPlay mean x v p → IsPlayedIn f x v × IsBestIn f x v
    held is = (
      is_played is.result,
      λ z legal. subst (λ r. f.means r ≤ mean_in f z) read
          (least-agree mean f.means agree p is.result is.least z legal),
    )

    pub refused : (fault : PlayFault) → IsRefused mean x v p fault → IsRefusedIn f x v fault
    refused NotLegal none = λ played.
        none (subst (IsResult x v) (sym read) (played.legal, played.ranked))
    refused NotLeast some = (
      is_played some.0,
      λ best. some.1
          (least-agree f.means mean (λ unfinished z legal. sym (agree unfinished z legal)) p some.0
          (λ z legal. subst (λ r. f.means r ≤ mean_in f z) (sym read) (best z legal))),
    )

-- the first roll that is refused is the first in the book
pub first-in_book : (x : Board) → IsPosition x → (f : Book) (mean : ℕ → ℕ) →
    (¬ IsFinished x → (v : Throw) (z : Board) → Legal x v z → mean (rank z) ≡ f.means (rank z)) →
    (plays : ℕ → ℕ) → ((i : ℕ) → i < 21 → plays i ≡ play_in f x (roll_at i)) →
    (refused : RefusedPlay) → IsFirstRefused mean plays x refused → IsFirstRefusedIn f x refused
first-in_book x at f mean agree plays read it first = record {
  is_roll = first.is_roll;
  applies =
      refused x at (roll_at it.roll) f mean (λ unfinished. agree unfinished (roll_at it.roll))
      (plays it.roll) (read it.roll first.is_roll) it.fault first.applies;
  earlier = λ i lt.
      held x at (roll_at i) f mean (λ unfinished. agree unfinished (roll_at i)) (plays i)
      (read i (omega (arith, lt, first.is_roll))) (first.earlier i lt);
}
