-- Two books that say the same within the bounds of both give the same reply to each line that asks
-- of a position there. One may count over more throws than the other, so that its numbers are
-- multiples of the other's: a reply says them in lowest terms.
use Rattle.std.proofs.Common.{◌≡◌, ◌⊎◌, ⊎_elim, inl, inr, ℕ, zero, suc, ◌-◌, ◌<◌, ◌≤◌, List}
use Rattle.std.proofs.Common.{[], ◌∷◌, ◌++◌, length, get_or, slice_index_or, codes, refl, ap, sym, subst}
use Rattle.std.proofs.Common.{subst₂, ◌∙◌, arith, le_trans}
use Rattle.std.specs.List.{concat}
use Rattle.std.proofs.lemmas.List.{get_or_past}
use Rattle.std.proofs.lemmas.List.Elements.{Contains-get_or}
use Rattle.std.proofs.lemmas.Bool.{cases_lt}
use Rattle.race_model.specs.Prelude.{Board, IsPosition, checkers, pips, finished, Throw, Legal, rank, at_rank, Book}
use Rattle.race_model.specs.Prelude.{mean_in, play_in, recorded_in, share_in, IsPlayedIn, loss_in, IsListedBeforeIn}
use Rattle.race_model.specs.Prelude.{IsMoveListIn, Query, mean_query, dist_query, play_query, loss_query, moves_query}
use Rattle.race_model.specs.Prelude.{rank_query, IsQuery, HasTooMany, HasResult, subject, Refusal, IsRefused}
use Rattle.race_model.specs.Prelude.{IsWithinAlike, no_query, of_too_many, of_over_bound, of_finished, of_no_result}
use Rattle.race_model.specs.Prelude.{IsShareTextOver, IsMeanReplyOver, IsSharePartOver, IsDistReplyOver, IsPlayReply}
use Rattle.race_model.specs.Prelude.{IsAnswerOver, IsReplyOver, answered, refused}
use Rattle.race_model.proofs.Plays.Results.{legal_position, legal_pips}

-- a number that is not over 15
at_most : (n : ℕ) → ¬ (15 < n) → n ≤ 15
at_most n few = grind arith

-- a number over a bound is over one that it is as well within
over_too : (n b c : ℕ) → (n ≤ c → n ≤ b) → b < n → c < n
over_too n b c within over =
    ⊎_elim (λ beyond. beyond) (λ le. absurd (omega (arith, within (omega (arith, le)), over)))
    (cases_lt c n)

-- so many parts of a list, the last of them empty where it has fewer
fit : ℕ → List (List ℕ) → List (List ℕ)
fit zero parts = []
fit (suc n) [] = [] ∷ fit n []
fit (suc n) (part ∷ parts) = part ∷ fit n parts

-- they are so many
length-fit : (n : ℕ) (parts : List (List ℕ)) → length (fit n parts) ≡ n
unfolding fit
length-fit zero parts = refl
length-fit (suc n) [] = ap suc (length-fit n [])
length-fit (suc n) (part ∷ parts) = ap suc (length-fit n parts)

-- each is that of the list
get_or-fit : (n : ℕ) (parts : List (List ℕ)) (k : ℕ) → k < n →
    get_or (fit n parts) k [] ≡ get_or parts k []
unfolding fit
get_or-fit zero parts k under = absurd (omega arith)
get_or-fit (suc n) [] zero under = refl
get_or-fit (suc n) [] (suc k) under = get_or-fit n [] k (omega arith)
get_or-fit (suc n) (part ∷ parts) zero under = refl
get_or-fit (suc n) (part ∷ parts) (suc k) under = get_or-fit n parts k (omega arith)

-- and together they are the list, where its further parts are empty
concat-fit : (n : ℕ) (parts : List (List ℕ)) → ((k : ℕ) → n ≤ k → get_or parts k [] ≡ []) →
    concat (fit n parts) ≡ concat parts
unfolding fit
concat-fit zero [] none = refl
concat-fit zero (part ∷ parts) none =
    concat-fit zero parts (λ k le. none (suc k) (omega arith))
    ∙ ap (λ p. p ++ concat parts) (sym (none 0 (omega arith)))
concat-fit (suc n) [] none = concat-fit n [] (λ k le. refl)
concat-fit (suc n) (part ∷ parts) none =
    ap (λ rest. part ++ rest) (concat-fit n parts (λ k le. none (suc k) (omega arith)))

-- numbers of one book, and those of another that stand for them, over as many sequences as each
-- has: they have the same text and the same order
pub record IsCarried (whole over : ℕ) (R : ℕ → ℕ → Type 0) : Type 0 where
  pub text : (a b : ℕ) (t : List ℕ) → R a b → IsShareTextOver whole a t → IsShareTextOver over b t
  pub mean : (a b : ℕ) (t : List ℕ) → R a b → IsMeanReplyOver whole a t → IsMeanReplyOver over b t
  pub minus : (a b c d : ℕ) → R a b → R c d → R (a - c) (b - d)
  pub less : (a b c d : ℕ) → R a b → R c d → a < c → b < d
  pub equal : (a b c d : ℕ) → R a b → R c d → a ≡ c → b ≡ d
  pub none : (a b : ℕ) → R a b → b ≡ 0 → a ≡ 0
  pub some : (a b : ℕ) → R a b → 0 < b → 0 < a

-- a position within the bounds of two books
abbrev pub IsLow : Book → Book → Board → Type 0
IsLow f g x = (pips x ≤ f.bound) × (pips x ≤ g.bound)

-- what a throw leads to from a position within the bounds of two books is within them
lower : (f g : Book) (x : Board) (v : Throw) (y : Board) → IsLow f g x → Legal x v y → IsLow f g y
lower f g x v y low legal =
    (le_trans (legal_pips x v y legal) low.0, le_trans (legal_pips x v y legal) low.1)

-- a book whose numbers stand there for those of another
pub record Carries (R : ℕ → ℕ → Type 0) (f g : Book) : Type 0 where
  pub played : (x : Board) (v : Throw) → IsPosition x → IsLow f g x → IsPlayedIn f x v
  pub plays : (x : Board) (v : Throw) → IsPosition x → IsLow f g x →
      play_in f x v ≡ play_in g x v
  pub means : (x : Board) → IsPosition x → IsLow f g x → R (mean_in f x) (mean_in g x)
  pub shares : (x : Board) (k : ℕ) → IsPosition x → IsLow f g x → k ≤ suc f.further →
      k ≤ suc g.further → R (share_in f x k) (share_in g x k)
  pub further : (x : Board) (k : ℕ) → IsPosition x → IsLow f g x → suc f.further < k →
      k ≤ suc g.further → share_in g x k ≡ 0
  pub fewer : (x : Board) (k : ℕ) → IsPosition x → IsLow f g x → suc g.further < k →
      k ≤ suc f.further → share_in f x k ≡ 0

module _ (whole over : ℕ) (R : ℕ → ℕ → Type 0) (is : IsCarried whole over R) (f g : Book)
    (carries : Carries R f g) where
  -- the mean of what is said for a throw
  mean_after : (x : Board) (v : Throw) → IsPosition x → IsLow f g x →
      R (f.means (play_in f x v)) (g.means (play_in g x v))
  mean_after x v at low =
      let ours = carries.played x v at low in
      subst₂ R (ap f.means ours.ranked)
      (ap (λ r. g.means (rank (at_rank r))) (carries.plays x v at low)
      ∙ ap g.means
      (subst (λ r. rank (at_rank r) ≡ r) (carries.plays x v at low) ours.ranked))
      (carries.means (recorded_in f x v) (legal_position x v (recorded_in f x v) at ours.legal)
      (lower f g x v (recorded_in f x v) low ours.legal))

  -- the losses of results
  loss_after : (x : Board) (v : Throw) (y : Board) → IsPosition x → IsLow f g x →
      Legal x v y → R (loss_in f x v y) (loss_in g x v y)
  loss_after x v y at low leads =
      is.minus (mean_in f y) (mean_in g y) (f.means (play_in f x v)) (g.means (play_in g x v))
      (carries.means y (legal_position x v y at leads) (lower f g x v y low leads))
      (mean_after x v at low)

  -- the lists of moves are the same
  same_list : (x : Board) (v : Throw) (ys : List Board) → IsPosition x → IsLow f g x →
      IsMoveListIn f x v ys → IsMoveListIn g x v ys
  same_list x v ys at low listed = record { members = listed.members; ordered = ordered }
    where
      at_place : (i : ℕ) → i < length ys →
          R (loss_in f x v (slice_index_or ys i finished))
          (loss_in g x v (slice_index_or ys i finished))
      at_place i inside =
          loss_after x v (slice_index_or ys i finished) at low
          ((listed.members (slice_index_or ys i finished)).0
          (Contains-get_or ys i finished inside))

      moved : (a b c d : ℕ) (Q : Type 0) → R a c → R b d → (a < b) ⊎ ((a ≡ b) × Q) →
          (c < d) ⊎ ((c ≡ d) × Q)
      moved a b c d Q p q order = ⊎_elim
          (λ less. inl (is.less a c b d p q less))
          (λ same. inr (is.equal a c b d p q same.0, same.1))
          order

      ordered : (i j : ℕ) → i < j → j < length ys →
          IsListedBeforeIn g x v (slice_index_or ys i finished) (slice_index_or ys j finished)
      ordered i j before inside =
          moved (loss_in f x v (slice_index_or ys i finished))
          (loss_in f x v (slice_index_or ys j finished))
          (loss_in g x v (slice_index_or ys i finished))
          (loss_in g x v (slice_index_or ys j finished))
          (rank (slice_index_or ys i finished) < rank (slice_index_or ys j finished))
          (at_place i (omega arith)) (at_place j inside) (listed.ordered i j before inside)

  -- a distribution: beyond the shares of both there are none
  same_dist : (x : Board) (text : List ℕ) → IsPosition x → IsLow f g x →
      IsDistReplyOver whole (suc f.further) (share_in f x) text →
      IsDistReplyOver over (suc g.further) (share_in g x) text
  same_dist x text at low reply = record {
    parts = fit (suc (suc g.further)) reply.parts;
    count = length-fit (suc (suc g.further)) reply.parts;
    each =
        λ k under.
        subst (IsSharePartOver over (share_in g x k) k)
        (sym (get_or-fit (suc (suc g.further)) reply.parts k under))
        (⊎_elim (λ both. within k both under) (λ beyond. past k beyond under)
        (cases_lt k (suc (suc f.further))));
    written =
        reply.written ∙ ap (λ all. codes "dist" ++ all)
        (sym (concat-fit (suc (suc g.further)) reply.parts (λ k beyond.
        ⊎_elim
        (λ under.
        (reply.each k under).none (carries.fewer x k at low (omega arith) (omega arith)))
        (λ past. get_or_past reply.parts k [] (omega (arith, reply.count, past)))
        (cases_lt k (suc (suc f.further))))));
  } where
    within : (k : ℕ) → k < suc (suc f.further) → k < suc (suc g.further) →
        IsSharePartOver over (share_in g x k) k (get_or reply.parts k [])
    within k under few =
        let here = carries.shares x k at low (omega arith) (omega arith) in
        let ours = reply.each k under in
        record {
          none = λ none. ours.none (is.none (share_in f x k) (share_in g x k) here none);
          some =
              λ some.
              let part = ours.some (is.some (share_in f x k) (share_in g x k) here some) in
              (part.0, is.text (share_in f x k) (share_in g x k) part.0 here part.1, part.2);
        }

    past : (k : ℕ) → suc (suc f.further) ≤ k → k < suc (suc g.further) →
        IsSharePartOver over (share_in g x k) k (get_or reply.parts k [])
    past k beyond few =
        let none = carries.further x k at low (omega arith) (omega arith) in
        record {
          none = λ _. get_or_past reply.parts k [] (omega (arith, reply.count, beyond));
          some = λ some. absurd (omega (arith, none, some));
        }

  -- the answers are the same
  same_answer : (q : Query) (text : List ℕ) → HasResult q → IsPosition (subject q) →
      IsLow f g (subject q) → IsAnswerOver whole f q text → IsAnswerOver over g q text
  same_answer (mean_query x) text leads at low answer =
      is.mean (mean_in f x) (mean_in g x) text (carries.means x at low) answer
  same_answer (dist_query x) text leads at low answer = same_dist x text at low answer
  same_answer (play_query x v) text leads at low answer =
      subst (λ y. IsPlayReply x v y text) (ap at_rank (carries.plays x v at low)) answer
  same_answer (loss_query x v y) text leads at low answer = (
    answer.0,
    is.text (loss_in f x v y) (loss_in g x v y) answer.0 (loss_after x v y at low leads) answer.1,
    answer.2,
  )
  same_answer (moves_query x v) text leads at low answer = record {
    results = answer.results;
    listed = same_list x v answer.results at low answer.listed;
    parts = answer.parts;
    count = answer.count;
    each =
        λ i inside.
        let part = answer.each i inside in
        record {
          position = part.position;
          position_is = part.position_is;
          fraction = part.fraction;
          loss_is =
              is.text (loss_in f x v (slice_index_or answer.results i finished))
              (loss_in g x v (slice_index_or answer.results i finished)) part.fraction
              (loss_after x v (slice_index_or answer.results i finished) at low
              ((answer.listed.members (slice_index_or answer.results i finished)).0
              (Contains-get_or answer.results i finished inside))) part.loss_is;
          written = part.written;
        };
    written = answer.written;
  }
  same_answer (rank_query x) text leads at low answer = answer

  -- the position that an accepted query is about is one
  subject_position : (line : List ℕ) (q : Query) → IsQuery line q → ¬ HasTooMany q →
      IsPosition (subject q)
  subject_position line (mean_query x) query few = record {
    six = query.1.six;
    few = at_most (checkers x) few;
  }
  subject_position line (dist_query x) query few = record {
    six = query.1.six;
    few = at_most (checkers x) few;
  }
  subject_position line (play_query x v) query few = record {
    six = query.2.six;
    few = at_most (checkers x) few;
  }
  subject_position line (loss_query x v y) query few = record {
    six = query.3.six;
    few = at_most (checkers x) (λ many. few (inl many));
  }
  subject_position line (moves_query x v) query few = record {
    six = query.2.six;
    few = at_most (checkers x) few;
  }
  subject_position line (rank_query x) query few = record {
    six = query.1.six;
    few = at_most (checkers x) few;
  }

  -- the replies are the same, to a line that asks of a position within both bounds or within none
  module _ (line text : List ℕ) (alike : IsWithinAlike f.bound g.bound line) where
    refused_too : (why : Refusal) → IsRefused f.bound line why → IsRefused g.bound line why
    refused_too _ (no_query none) = no_query none
    refused_too _ (of_too_many q is many) = of_too_many q is many
    refused_too _ (of_over_bound q is few over) =
        of_over_bound q is few (over_too (pips (subject q)) f.bound g.bound (alike q is).1 over)
    refused_too _ (of_finished q is few within none) =
        of_finished q is few ((alike q is).0 within) none
    refused_too _ (of_no_result q is few within some none) =
        of_no_result q is few ((alike q is).0 within) some none

    pub same_reply : IsReplyOver whole f line text → IsReplyOver over g line text
    same_reply (answered q answer accepted says written) =
        let low = (alike q accepted.query).0 accepted.within in
        answered q answer
        (record {
          query = accepted.query;
          few = accepted.few;
          within = low;
          unfinished = accepted.unfinished;
          result = accepted.result;
        })
        (same_answer q answer accepted.result
        (subject_position line q accepted.query accepted.few) (accepted.within, low) says) written
    same_reply (refused why because written) = refused why (refused_too why because) written
