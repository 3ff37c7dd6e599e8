-- Each question about a book has an answer, so a file is locally right or has a first fault.
use Rattle.std.proofs.Common.{◌≡◌, ◌⊎◌, inl, inr, ⊎_elim, ℕ, zero, suc, ◌+◌, ◌-◌, ◌*◌, ◌/◌, ◌^◌}
use Rattle.std.proofs.Common.{◌<◌, ◌≤◌, List, [], ◌∷◌, refl, sym, subst, ◌∙◌, arith}
use Rattle.race_model.specs.Prelude.{Board, IsFinished, pips, Throw, roll_at, weighted, Legal, rank, at_rank, count_to}
use Rattle.race_model.specs.Prelude.{most_rolls, Book, mean_in, play_in, recorded_in, share_in, IsPlayedIn, whole_in}
use Rattle.race_model.specs.Prelude.{IsBestIn, HasMeanOver, HasShareOver, whole, IsLocalDatabase, IsFile, book_of}
use Rattle.race_model.specs.Prelude.{board_book, board_record, mean_parts, count_parts, IsBoardFile, IsMeanWritten}
use Rattle.race_model.specs.Prelude.{IsCountWritten, HoldsOnBoard, IsFirstBoardFault, IsLocalBoard, Test, play_test}
use Rattle.race_model.specs.Prelude.{least_test, mean_test, spread_test, rank_of, place_of, HoldsOver, AsksIn}
use Rattle.race_model.specs.Prelude.{IsFirstFailing, Asks, IsFirstFault, all_results}
use Rattle.race_model.proofs.Plays.Results.{finished_or_not}
use Rattle.race_model.proofs.Plays.Enumerated.{IsIn, results_listed, listed_results}
use Rattle.race_model.proofs.FirstFaults.InRecord.{asked_rank}
use Rattle.race_model.proofs.FirstFaults.Questions.{local_of_answers, board_of_answers, same_question}

-- numbers are equal or not
same_or_not : (a b : ℕ) → (a ≡ b) ⊎ (¬ (a ≡ b))
same_or_not a b = grind arith

-- lists of numbers are equal or not
pub lists_same_or_not : (xs ys : List ℕ) → (xs ≡ ys) ⊎ (¬ (xs ≡ ys))
lists_same_or_not [] [] = inl refl
lists_same_or_not [] (y ∷ ys) = inr (λ e. cc)
lists_same_or_not (x ∷ xs) [] = inr (λ e. cc)
lists_same_or_not (x ∷ xs) (y ∷ ys) = ⊎_elim
    (λ e. ⊎_elim (λ f. inl (cc)) (λ n. inr (λ f. n (cc))) (lists_same_or_not xs ys))
    (λ n. inr (λ f. n (cc)))
    (same_or_not x y)

-- a position is in a list or not
in_or_not : (y : Board) (xs : List Board) → IsIn y xs ⊎ (¬ IsIn y xs)
in_or_not y [] = inr (λ h. h)
in_or_not y (x ∷ xs) = ⊎_elim
    (λ e. inl (inl e))
    (λ n. ⊎_elim (λ h. inl (inr h)) (λ m. inr (λ h. ⊎_elim n m h)) (in_or_not y xs))
    (lists_same_or_not y x)

-- a throw leads to a position or not
pub legal_or_not : (x : Board) (v : Throw) (y : Board) → Legal x v y ⊎ (¬ Legal x v y)
legal_or_not x v y =
    ⊎_elim (λ h. inl (results_listed x v y h)) (λ n. inr (λ l. n (listed_results x v y l)))
    (in_or_not y (all_results x v))

-- both of two facts hold or not
both_or_not : (P Q : Type 0) → P ⊎ (¬ P) → Q ⊎ (¬ Q) → (P × Q) ⊎ (¬ (P × Q))
both_or_not P Q p q =
    ⊎_elim (λ a. ⊎_elim (λ b. inl (a, b)) (λ n. inr (λ h. n h.1)) q) (λ n. inr (λ h. n h.0)) p

-- a fact follows from another or not
if_or_not : (P Q : Type 0) → P ⊎ (¬ P) → Q ⊎ (¬ Q) → (P → Q) ⊎ (¬ (P → Q))
if_or_not P Q p q =
    ⊎_elim (λ b. inl (λ _. b))
    (λ n. ⊎_elim (λ a. inr (λ h. n (h a))) (λ m. inl (λ a. absurd (m a))) p) q

-- that a fact fails, holds or not
not_or : (P : Type 0) → P ⊎ (¬ P) → (¬ P) ⊎ (¬ (¬ P))
not_or P p = ⊎_elim (λ a. inr (λ n. n a)) (λ n. inl n) p

-- an order of numbers holds or not
le_or_not : (a b : ℕ) → (a ≤ b) ⊎ (¬ (a ≤ b))
le_or_not a b = grind arith

module _ (over : ℕ) (f : Book) where
  -- no member of a list has a smaller mean, or one has
  none_under : (m : ℕ) (xs : List Board) →
      ((z : Board) → IsIn z xs → m ≤ mean_in f z)
      ⊎ (¬ ((z : Board) → IsIn z xs → m ≤ mean_in f z))
  none_under m [] = inl (λ z h. absurd h)
  none_under m (x ∷ xs) = ⊎_elim
      (λ le. ⊎_elim
      (λ rest.
      inl (λ z h. ⊎_elim (λ e. subst (λ w. m ≤ mean_in f w) (sym e) le) (λ k. rest z k) h))
      (λ n. inr (λ h. n (λ z k. h z (inr k))))
      (none_under m xs))
      (λ n. inr (λ h. n (h x (inl refl))))
      (le_or_not m (mean_in f x))

  -- the play equation holds or not
  played_or_not : (x : Board) (v : Throw) → IsPlayedIn f x v ⊎ (¬ IsPlayedIn f x v)
  played_or_not x v = ⊎_elim
      (λ h. inl (record { ranked = h.0; legal = h.1 }))
      (λ n. inr (λ p. n (p.ranked, p.legal)))
      (both_or_not (rank (recorded_in f x v) ≡ play_in f x v) (Legal x v (recorded_in f x v))
      (same_or_not (rank (recorded_in f x v)) (play_in f x v))
      (legal_or_not x v (recorded_in f x v)))

  -- the least equation
  best_or_not : (x : Board) (v : Throw) → IsBestIn f x v ⊎ (¬ IsBestIn f x v)
  best_or_not x v = ⊎_elim
      (λ h. inl (λ z l. h z (listed_results x v z l)))
      (λ n. inr (λ b. n (λ z h. b z (results_listed x v z h))))
      (none_under (f.means (play_in f x v)) (all_results x v))

  -- an equation for the finished position, and one for the others
  ends_or_not : (x : Board) (a b c d : ℕ) →
      ((IsFinished x → a ≡ b) × (¬ IsFinished x → c ≡ d))
      ⊎ (¬ ((IsFinished x → a ≡ b) × (¬ IsFinished x → c ≡ d)))
  ends_or_not x a b c d =
      both_or_not (IsFinished x → a ≡ b) (¬ IsFinished x → c ≡ d)
      (if_or_not (IsFinished x) (a ≡ b) (finished_or_not x) (same_or_not a b))
      (if_or_not (¬ IsFinished x) (c ≡ d) (not_or (IsFinished x) (finished_or_not x))
      (same_or_not c d))

  -- the mean equation holds or not
  mean_or_not : (x : Board) → HasMeanOver over f x ⊎ (¬ HasMeanOver over f x)
  mean_or_not x = ⊎_elim
      (λ h. inl (record { at_end = h.0; before = h.1 }))
      (λ n. inr (λ m. n (m.at_end, m.before)))
      (ends_or_not x (mean_in f x) 0 (36 * mean_in f x)
      (36 * over + weighted (λ v. f.means (play_in f x v))))

  -- the spread equation
  share_or_not : (x : Board) (k : ℕ) → HasShareOver over f x k ⊎ (¬ HasShareOver over f x k)
  share_or_not x zero = ends_or_not x (share_in f x 0) over (share_in f x 0) 0
  share_or_not x (suc k) =
      ends_or_not x (share_in f x (suc k)) 0 (36 * share_in f x (suc k))
      (weighted (λ v. f.shares (play_in f x v) k))

  -- each question is answered yes or no
  pub yes_or_no : (t : Test) → HoldsOver over f t ⊎ (¬ HoldsOver over f t)
  yes_or_no (play_test r i) = played_or_not (at_rank r) (roll_at i)
  yes_or_no (least_test r i) = best_or_not (at_rank r) (roll_at i)
  yes_or_no (mean_test r) = mean_or_not (at_rank r)
  yes_or_no (spread_test r k) = share_or_not (at_rank r) k

-- a count of a board file is written as is allowed or not
count_or_not : (f : List ℕ) (x : Board) (k : ℕ) → IsCountWritten f x k ⊎ (¬ IsCountWritten f x k)
count_or_not f x k =
    if_or_not (11 < k)
    (k ≤ most_rolls (pips x) → (count_parts (board_record f (rank x)) k).lower < 36 ^ 11)
    (le_or_not 12 k)
    (if_or_not (k ≤ most_rolls (pips x))
    ((count_parts (board_record f (rank x)) k).lower < 36 ^ 11)
    (le_or_not k (most_rolls (pips x)))
    (le_or_not (suc (count_parts (board_record f (rank x)) k).lower) (36 ^ 11)))

-- each question about a board file is answered yes or no
board_yes_or_no : (f : List ℕ) (t : Test) → HoldsOnBoard f t ⊎ (¬ HoldsOnBoard f t)
board_yes_or_no f (play_test r i) =
    yes_or_no (whole_in (board_book f)) (board_book f) (play_test r i)
board_yes_or_no f (least_test r i) =
    yes_or_no (whole_in (board_book f)) (board_book f) (least_test r i)
board_yes_or_no f (mean_test r) =
    both_or_not (IsMeanWritten f (at_rank r))
    (HoldsOver (whole_in (board_book f)) (board_book f) (mean_test r))
    (le_or_not (suc (mean_parts (board_record f (rank (at_rank r)))).lower) (36 ^ 11))
    (yes_or_no (whole_in (board_book f)) (board_book f) (mean_test r))
board_yes_or_no f (spread_test r k) =
    both_or_not (IsCountWritten f (at_rank r) k)
    (HoldsOver (whole_in (board_book f)) (board_book f) (spread_test r k))
    (count_or_not f (at_rank r) k)
    (yes_or_no (whole_in (board_book f)) (board_book f) (spread_test r k))

-- a search for the first answer that is no, rank by rank and in each place by place
module _ (b : Book) (holds : Test → Type 0) (decide : (t : Test) → holds t ⊎ (¬ holds t)) where
  -- a question that is asked, at a place of a rank
  record IsAt (r n : ℕ) : Type 0 where
    test : Test
    asked : AsksIn b test
    rank_is : rank_of test ≡ r
    place : place_of test ≡ n

  -- all questions of lower ranks, and of this rank before a place, are answered yes
  HoldTo : ℕ → ℕ → Type 0
  HoldTo r n =
      (t : Test) → AsksIn b t → (rank_of t < r) ⊎ ((rank_of t ≡ r) × (place_of t < n)) → holds t

  Fault : Type 0
  Fault = (t : Test) × IsFirstFailing (AsksIn b) holds t

  -- at each place of a rank one question is asked, or there is none
  question_at : (r n : ℕ) → r < count_to b.bound → n < 45 + b.further → IsAt r n
  question_at r n inside few = ⊎_elim
      (λ low. ⊎_elim
      (λ even. record {
        test = play_test r (n / 2);
        asked = (inside, omega arith);
        rank_is = refl;
        place = omega (arith, even);
      })
      (λ odd. record {
        test = least_test r (n / 2);
        asked = (inside, omega arith);
        rank_is = refl;
        place = omega (arith, odd);
      })
      (parity n))
      (λ high. ⊎_elim
      (λ at. record {
        test = mean_test r;
        asked = inside;
        rank_is = refl;
        place =
            omega (arith, at);
      })
      (λ more. record {
        test = spread_test r (n - 43);
        asked = (inside, omega (arith, few, more));
        rank_is = refl;
        place = omega (arith, more);
      })
      high)
      (split n)
    where
      parity : (p : ℕ) → (2 * (p / 2) ≡ p) ⊎ (2 * (p / 2) + 1 ≡ p)
      parity p = grind arith

      split : (p : ℕ) → (p < 42) ⊎ ((p ≡ 42) ⊎ (43 ≤ p))
      split p = grind arith

  -- the places of a rank
  search_rank : (r n : ℕ) → r < count_to b.bound → n ≤ 45 + b.further → HoldTo r 0 →
      HoldTo r n ⊎ Fault
  unfolding HoldTo Fault
  search_rank r zero inside few before = inl before
  search_rank r (suc n) inside few before = ⊎_elim
      (λ all. next all (question_at r n inside (omega (arith, few))))
      (λ fault. inr fault)
      (search_rank r n inside (omega (arith, few)) before)
    where
      next : HoldTo r n → IsAt r n → HoldTo r (suc n) ⊎ Fault
      next all q = ⊎_elim
          (λ yes.
          inl (λ t asked h.
          ⊎_elim (λ lower. all t asked lower)
          (λ here.
          subst holds
          (sym (same_question b t q.test asked q.asked (here.0 ∙ sym q.rank_is)
          (here.1 ∙ sym q.place)))
          yes)
          (split (rank_of t) (place_of t) h)))
          (λ fails.
          inr (
            q.test,
            record {
              is_asked = q.asked;
              fails = fails;
              earlier =
                  λ u asked earlier.
                  all u asked
                  (moved (rank_of u) (rank_of q.test) (place_of u) (place_of q.test) q.rank_is
                  q.place earlier);
            },
          ))
          (decide q.test)
        where
          split : (s p : ℕ) → (s < r) ⊎ ((s ≡ r) × (p < suc n)) →
              ((s < r) ⊎ ((s ≡ r) × (p < n))) ⊎ ((s ≡ r) × (p ≡ n))
          split s p h = grind arith

          moved : (s q p o : ℕ) → q ≡ r → o ≡ n → (s < q) ⊎ ((s ≡ q) × (p < o)) →
              (s < r) ⊎ ((s ≡ r) × (p < n))
          moved s q p o e h earlier = grind arith

  -- all ranks under a number
  search_to : (r : ℕ) → r ≤ count_to b.bound → HoldTo r 0 ⊎ Fault
  unfolding HoldTo Fault
  search_to zero le = inl (λ t asked h. absurd (never (rank_of t) (place_of t) h))
    where
      never : (s p : ℕ) → (s < 0) ⊎ ((s ≡ 0) × (p < 0)) → ⊥
      never s p h = grind arith
  search_to (suc r) le = ⊎_elim
      (λ all. ⊎_elim (λ here. inl (λ t asked h. here t asked (last t asked h)))
      (λ fault. inr fault)
      (search_rank r (45 + b.further) (omega (arith, le)) (omega arith) all))
      (λ fault. inr fault)
      (search_to r (omega (arith, le)))
    where
      few : (t : Test) → AsksIn b t → place_of t < 45 + b.further
      few (play_test r i) asked = omega (arith, asked.1)
      few (least_test r i) asked = omega (arith, asked.1)
      few (mean_test r) asked = omega arith
      few (spread_test r k) asked = omega (arith, asked.1)

      last : (t : Test) → AsksIn b t →
          (rank_of t < suc r) ⊎ ((rank_of t ≡ suc r) × (place_of t < 0)) →
          (rank_of t < r) ⊎ ((rank_of t ≡ r) × (place_of t < 45 + b.further))
      last t asked h = by (rank_of t) (place_of t) (few t asked) h
        where
          by : (s p : ℕ) → p < 45 + b.further → (s < suc r) ⊎ ((s ≡ suc r) × (p < 0)) →
              (s < r) ⊎ ((s ≡ r) × (p < 45 + b.further))
          by s p less h = grind arith

  -- all questions are answered yes, or there is a first that isn't
  pub all_or_fault : ((t : Test) → AsksIn b t → holds t)
      ⊎ ((t : Test) × IsFirstFailing (AsksIn b) holds t)
  unfolding HoldTo Fault
  all_or_fault = ⊎_elim
      (λ all. inl (λ t asked. all t asked (inl (asked_rank b t asked))))
      (λ fault. inr fault)
      (search_to (count_to b.bound) (omega arith))

-- a file is locally right, or has a first fault
pub local_or_fault : (f : List ℕ) → IsFile f →
    IsLocalDatabase f ⊎ ((t : Test) × IsFirstFault (Asks f) f t)
local_or_fault f file = ⊎_elim (λ all. inl (local_of_answers f file all)) (λ fault. inr fault)
    (all_or_fault (book_of f) (HoldsOver whole (book_of f)) (yes_or_no whole (book_of f)))

-- a board file is locally right, or has a first fault
pub board_or_fault : (f : List ℕ) → IsBoardFile f →
    IsLocalBoard f ⊎ ((t : Test) × IsFirstBoardFault f t)
board_or_fault f file = ⊎_elim (λ all. inl (board_of_answers f file all)) (λ fault. inr fault)
    (all_or_fault (board_book f) (HoldsOnBoard f) (board_yes_or_no f))
