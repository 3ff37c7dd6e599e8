-- A line has one reply.
use Rattle.std.proofs.Common.{◌≡◌, ◌⊎◌, ⊎_elim, ℕ, suc, ◌*◌, ◌^◌, ◌<◌, ◌≤◌, List, [], ◌∷◌, ◌++◌, length}
use Rattle.std.proofs.Common.{get_or, flat_map, slice_index_or, codes, decimal, refl, ap, ap₂, sym}
use Rattle.std.proofs.Common.{subst, ◌∙◌, arith}
use Rattle.std.proofs.Math.Nat.{one-le-pow}
use Rattle.std.specs.List.{concat}
use Rattle.race_model.specs.Prelude.{Board, finished, pips, Throw, rank, whole, Book, IsThousandths, loss_in}
use Rattle.race_model.specs.Prelude.{IsListedBeforeIn, move_text, Query, mean_query, dist_query, play_query, loss_query}
use Rattle.race_model.specs.Prelude.{moves_query, rank_query, Refusal, HasTooMany, AsksOfFinished, HasResult, subject}
use Rattle.race_model.specs.Prelude.{IsRefused, no_query, of_too_many, of_over_bound, of_finished, of_no_result}
use Rattle.race_model.specs.Prelude.{IsAccepted, fraction_text, thousandths_text, IsShareTextOver, IsMeanReplyOver}
use Rattle.race_model.specs.Prelude.{IsSharePartOver, IsDistReplyOver, IsPlayReply, IsChoicePartOver, IsMovesReplyOver}
use Rattle.race_model.specs.Prelude.{IsAnswerOver, refusal_text, IsReplyOver, answered, refused}
use Rattle.race_model.proofs.Numbers.LowestTerms.{one_fraction, one_number_of_thousandths}
use Rattle.race_model.proofs.Replies.Lines.{one_query}
use Rattle.race_model.proofs.Plays.PlayOrder.{one_first_play}
use Rattle.race_model.proofs.Numbers.OrderedLists.{one_list}
use Rattle.race_model.proofs.Positions.OneText.{one_text}

-- over so many sequences, of which there are some
module _ (over : ℕ) (some : 0 < over) where
  -- a share has one text
  one_share_text : (a : ℕ) (t u : List ℕ) → IsShareTextOver over a t → IsShareTextOver over a u →
      t ≡ u
  one_share_text a t u p q =
      let same =
      one_fraction a over p.numerator p.denominator q.numerator q.denominator some
      p.lowest q.lowest in
      p.written ∙ ap₂ fraction_text same.0 same.1 ∙ sym q.written

  -- a mean has one reply
  one_mean_reply : (total : ℕ) (t u : List ℕ) → IsMeanReplyOver over total t →
      IsMeanReplyOver over total u → t ≡ u
  one_mean_reply total t u p q =
      p.written
      ∙ (λ i.
      codes "mean " ++ fraction_text (mean.0 i) (mean.1 i) ++ codes " epc "
      ++ fraction_text (pips.0 i) (pips.1 i) ++ codes " " ++ thousandths_text (rounded i))
      ∙ sym q.written
    where
      mean : (p.numerator ≡ q.numerator) × (p.denominator ≡ q.denominator)
      mean =
          one_fraction total over p.numerator p.denominator q.numerator q.denominator some
          p.mean_is q.mean_is

      positive : (n : ℕ) → 0 < n → 0 < 6 * n
      positive n h = omega arith

      pips : (p.pips_numerator ≡ q.pips_numerator) × (p.pips_denominator ≡ q.pips_denominator)
      pips =
          one_fraction (49 * total) (6 * over) p.pips_numerator p.pips_denominator q.pips_numerator
          q.pips_denominator (positive over some) p.pips_are q.pips_are

      rounded : p.thousandths ≡ q.thousandths
      rounded =
          one_number_of_thousandths q.pips_numerator q.pips_denominator p.thousandths q.thousandths
          q.pips_are.positive
          (subst (λ n. IsThousandths n q.pips_denominator p.thousandths) pips.0
          (subst (λ d. IsThousandths p.pips_numerator d p.thousandths) pips.1 p.rounded))
          q.rounded

  -- a part of a distribution has one text
  one_share_part : (share k : ℕ) (t u : List ℕ) → IsSharePartOver over share k t →
      IsSharePartOver over share k u →
      t ≡ u
  one_share_part share k t u p q = ⊎_elim
      (λ none. p.none none ∙ sym (q.none none))
      (λ some. by (p.some some) (q.some some))
      (decide share)
    where
      decide : (n : ℕ) → (n ≡ 0) ⊎ (0 < n)
      decide n = grind arith

      by : (text : List ℕ) × IsShareTextOver over share text
          × (t ≡ codes " " ++ decimal k ++ codes ":" ++ text) →
          (text : List ℕ) × IsShareTextOver over share text
          × (u ≡ codes " " ++ decimal k ++ codes ":" ++ text) → t ≡ u
      by (a, is, e) (b, is₁, e₁) =
          e
          ∙ ap (λ text. codes " " ++ decimal k ++ codes ":" ++ text)
          (one_share_text share a b is is₁) ∙ sym e₁

  -- lists of as many equal parts are one
  same_parts : (ps qs : List (List ℕ)) → length ps ≡ length qs →
      ((k : ℕ) → k < length qs → get_or ps k [] ≡ get_or qs k []) → ps ≡ qs
  same_parts [] [] e h = refl
  same_parts [] (q ∷ qs) e h = absurd (omega arith)
  same_parts (p ∷ ps) [] e h = absurd (omega arith)
  same_parts (p ∷ ps) (q ∷ qs) e h =
      ap₂ (λ c cs. c ∷ cs) (h 0 (omega arith))
      (same_parts ps qs (omega arith) (λ k less. h (suc k) (omega arith)))

  -- a distribution has one reply
  one_dist_reply : (most : ℕ) (share : ℕ → ℕ) (t u : List ℕ) → IsDistReplyOver over most share t →
      IsDistReplyOver over most share u → t ≡ u
  one_dist_reply most share t u p q =
      p.written
      ∙ ap (λ parts. codes "dist" ++ concat parts)
      (same_parts p.parts q.parts (p.count ∙ sym q.count)
      (λ k inside.
      one_share_part (share k) k (slice_index_or p.parts k [])
      (slice_index_or q.parts k []) (p.each k (omega (arith, q.count, inside)))
      (q.each k (omega (arith, q.count, inside)))))
      ∙ sym q.written

  -- a play has one reply
  one_play_reply : (x : Board) (v : Throw) (y : Board) (t u : List ℕ) → IsPlayReply x v y t →
      IsPlayReply x v y u → t ≡ u
  one_play_reply x v y t u p q =
      p.written
      ∙ ap₂
      (λ moves position.
      codes "play" ++ flat_map (λ m. codes " " ++ move_text m) moves ++ codes " to "
      ++ position) (one_first_play x v y p.moves q.moves p.first q.first)
      (one_text y p.position q.position p.position_is q.position_is)
      ∙ sym q.written

  -- a choice has one text
  one_choice_part : (y : Board) (lost : ℕ) (t u : List ℕ) → IsChoicePartOver over y lost t →
      IsChoicePartOver over y lost u → t ≡ u
  one_choice_part y lost t u p q =
      p.written
      ∙ ap₂ (λ position fraction. codes " " ++ position ++ codes ":" ++ fraction)
      (one_text y p.position q.position p.position_is q.position_is)
      (one_share_text lost p.fraction q.fraction p.loss_is q.loss_is)
      ∙ sym q.written

  -- of two results at most one is listed before the other
  listed_one_way : (f : Book) (x : Board) (v : Throw) (y z : Board) → IsListedBeforeIn f x v y z →
      IsListedBeforeIn f x v z y → ⊥
  listed_one_way f x v y z a b = by (loss_in f x v y) (loss_in f x v z) (rank y) (rank z) a b
    where
      by : (l m r s : ℕ) → (l < m) ⊎ ((l ≡ m) × (r < s)) → (m < l) ⊎ ((m ≡ l) × (s < r)) → ⊥
      by l m r s a b = omega arith

  -- a list of moves has one reply
  one_moves_reply : (f : Book) (x : Board) (v : Throw) (t u : List ℕ) →
      IsMovesReplyOver over f x v t →
      IsMovesReplyOver over f x v u → t ≡ u
  one_moves_reply f x v t u p q =
      p.written
      ∙ ap (λ parts. codes "moves" ++ concat parts)
      (same_parts p.parts q.parts (p.count ∙ ap length results ∙ sym q.count) part)
      ∙ sym q.written
    where
      results : p.results ≡ q.results
      results =
          one_list (IsListedBeforeIn f x v) (listed_one_way f x v) finished p.results q.results
          p.listed.ordered q.listed.ordered
          (λ z. (
            λ h. (q.listed.members z).1 ((p.listed.members z).0 h),
            λ h. (p.listed.members z).1 ((q.listed.members z).0 h),
          ))

      part : (k : ℕ) → k < length q.parts → get_or p.parts k [] ≡ get_or q.parts k []
      part k inside =
          one_choice_part (slice_index_or q.results k finished)
          (loss_in f x v (slice_index_or q.results k finished)) (slice_index_or p.parts k [])
          (slice_index_or q.parts k [])
          (subst
          (λ ys.
          IsChoicePartOver over (slice_index_or ys k finished)
          (loss_in f x v (slice_index_or ys k finished)) (slice_index_or p.parts k []))
          results (p.each k (omega (arith, inside, q.count, ap length results))))
          (q.each k (omega (arith, inside, q.count)))

  -- a query has one answer
  one_answer : (f : Book) (q : Query) (t u : List ℕ) → IsAnswerOver over f q t →
      IsAnswerOver over f q u → t ≡ u
  one_answer f (mean_query x) t u a b = one_mean_reply _ t u a b
  one_answer f (dist_query x) t u a b = one_dist_reply (suc f.further) _ t u a b
  one_answer f (play_query x v) t u a b = one_play_reply x v _ t u a b
  one_answer f (loss_query x v y) t u (p, is, e) (q, is₁, e₁) =
      e ∙ ap (λ fraction. codes "loss " ++ fraction) (one_share_text (loss_in f x v y) p q is is₁)
      ∙ sym e₁
  one_answer f (moves_query x v) t u a b = one_moves_reply f x v t u a b
  one_answer f (rank_query x) t u a b = a ∙ sym b

-- a line that is refused is not accepted
not_both : (bound : ℕ) (line : List ℕ) (q : Query) (why : Refusal) → IsAccepted bound line q →
    IsRefused bound line why → ⊥
not_both bound line q why accepted (no_query none) = none q accepted.query
not_both bound line q why accepted (of_too_many r is many) =
    accepted.few (subst HasTooMany (one_query line r q is accepted.query) many)
not_both bound line q why accepted (of_over_bound r is few over) =
    below (pips (subject q)) accepted.within
    (subst (λ s. bound < pips (subject s)) (one_query line r q is accepted.query) over)
  where
    below : (n : ℕ) → n ≤ bound → bound < n → ⊥
    below n a b = omega arith
not_both bound line q why accepted (of_finished r is few within none) =
    accepted.unfinished (subst AsksOfFinished (one_query line r q is accepted.query) none)
not_both bound line q why accepted (of_no_result r is few within unfinished none) =
    none (subst HasResult (one_query line q r accepted.query is) accepted.result)

-- a number is not over a bound and within it
not_over_and_within : (bound n : ℕ) → bound < n → n ≤ bound → ⊥
not_over_and_within bound n a b = omega arith

-- a line is refused for one reason
one_refusal : (bound : ℕ) (line : List ℕ) (why because : Refusal) → IsRefused bound line why →
    IsRefused bound line because → why ≡ because
one_refusal bound line why because (no_query none) (no_query none₁) = refl
one_refusal bound line why because (no_query none) (of_too_many r₁ is₁ many₁) =
    absurd (none r₁ is₁)
one_refusal bound line why because (no_query none) (of_over_bound r₁ is₁ few₁ over₁) =
    absurd (none r₁ is₁)
one_refusal bound line why because (no_query none) (of_finished r₁ is₁ few₁ within₁ ended₁) =
    absurd (none r₁ is₁)
one_refusal bound line why because (no_query none)
    (of_no_result r₁ is₁ few₁ within₁ unfinished₁ missed₁) =
    absurd (none r₁ is₁)
one_refusal bound line why because (of_too_many r is many) (no_query none₁) = absurd (none₁ r is)
one_refusal bound line why because (of_too_many r is many) (of_too_many r₁ is₁ many₁) = refl
one_refusal bound line why because (of_too_many r is many) (of_over_bound r₁ is₁ few₁ over₁) =
    absurd (few₁ (subst HasTooMany (one_query line r r₁ is is₁) many))
one_refusal bound line why because (of_too_many r is many) (of_finished r₁ is₁ few₁ within₁ ended₁)
    =
    absurd (few₁ (subst HasTooMany (one_query line r r₁ is is₁) many))
one_refusal bound line why because (of_too_many r is many)
    (of_no_result r₁ is₁ few₁ within₁ unfinished₁ missed₁) =
    absurd (few₁ (subst HasTooMany (one_query line r r₁ is is₁) many))
one_refusal bound line why because (of_over_bound r is few over) (no_query none₁) =
    absurd (none₁ r is)
one_refusal bound line why because (of_over_bound r is few over) (of_too_many r₁ is₁ many₁) =
    absurd (few (subst HasTooMany (one_query line r₁ r is₁ is) many₁))
one_refusal bound line why because (of_over_bound r is few over) (of_over_bound r₁ is₁ few₁ over₁)
    =
    refl
one_refusal bound line why because (of_over_bound r is few over)
    (of_finished r₁ is₁ few₁ within₁ ended₁) =
    absurd (not_over_and_within bound (pips (subject r₁))
    (subst (λ q. bound < pips (subject q)) (one_query line r r₁ is is₁) over) within₁)
one_refusal bound line why because (of_over_bound r is few over)
    (of_no_result r₁ is₁ few₁ within₁ unfinished₁ missed₁) =
    absurd (not_over_and_within bound (pips (subject r₁))
    (subst (λ q. bound < pips (subject q)) (one_query line r r₁ is is₁) over) within₁)
one_refusal bound line why because (of_finished r is few within ended) (no_query none₁) =
    absurd (none₁ r is)
one_refusal bound line why because (of_finished r is few within ended) (of_too_many r₁ is₁ many₁) =
    absurd (few (subst HasTooMany (one_query line r₁ r is₁ is) many₁))
one_refusal bound line why because (of_finished r is few within ended)
    (of_over_bound r₁ is₁ few₁ over₁) =
    absurd (not_over_and_within bound (pips (subject r))
    (subst (λ q. bound < pips (subject q)) (one_query line r₁ r is₁ is) over₁) within)
one_refusal bound line why because (of_finished r is few within ended)
    (of_finished r₁ is₁ few₁ within₁ ended₁) =
    refl
one_refusal bound line why because (of_finished r is few within ended)
    (of_no_result r₁ is₁ few₁ within₁ unfinished₁ missed₁) =
    absurd (unfinished₁ (subst AsksOfFinished (one_query line r r₁ is is₁) ended))
one_refusal bound line why because (of_no_result r is few within unfinished missed)
    (no_query none₁) =
    absurd (none₁ r is)
one_refusal bound line why because (of_no_result r is few within unfinished missed)
    (of_too_many r₁ is₁ many₁) =
    absurd (few (subst HasTooMany (one_query line r₁ r is₁ is) many₁))
one_refusal bound line why because (of_no_result r is few within unfinished missed)
    (of_over_bound r₁ is₁ few₁ over₁) =
    absurd (not_over_and_within bound (pips (subject r))
    (subst (λ q. bound < pips (subject q)) (one_query line r₁ r is₁ is) over₁) within)
one_refusal bound line why because (of_no_result r is few within unfinished missed)
    (of_finished r₁ is₁ few₁ within₁ ended₁) =
    absurd (unfinished (subst AsksOfFinished (one_query line r₁ r is₁ is) ended₁))
one_refusal bound line why because (of_no_result r is few within unfinished missed)
    (of_no_result r₁ is₁ few₁ within₁ unfinished₁ missed₁) =
    refl

-- a line has one reply
pub one_reply : (over : ℕ) → 0 < over → (f : Book) (line t u : List ℕ) →
    IsReplyOver over f line t → IsReplyOver over f line u → t ≡ u
one_reply over positive f line t u (answered q a accepted is e) (answered r b accepted₁ is₁ e₁) =
    e
    ∙ ap (λ text. text ++ 10 ∷ [])
    (one_answer over positive f r a b
    (subst (λ s. IsAnswerOver over f s a) (one_query line q r accepted.query accepted₁.query)
    is) is₁) ∙ sym e₁
one_reply over positive f line t u (answered q a accepted is e) (refused why because e₁) =
    absurd (not_both f.bound line q why accepted because)
one_reply over positive f line t u (refused why because e) (answered r b accepted₁ is₁ e₁) =
    absurd (not_both f.bound line r why accepted₁ because)
one_reply over positive f line t u (refused why because e) (refused why₁ because₁ e₁) =
    e
    ∙ ap (λ w. refusal_text w ++ 10 ∷ []) (one_refusal f.bound line why why₁ because because₁)
    ∙ sym e₁

-- the denominator is not 0
pub whole_positive : 0 < whole
unfolding whole
whole_positive = omega arith

-- the denominator is not 0, whatever the number of throws
pub power_positive : (m : ℕ) → 0 < 36 ^ m
power_positive m = omega (arith, one-le-pow m 36 (omega arith))
