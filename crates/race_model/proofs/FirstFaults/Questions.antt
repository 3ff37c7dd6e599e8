-- What a first fault means: the questions about a book are its local equations, rank by rank.
use Rattle.std.proofs.Common.{◌≡◌, ◌⊎◌, ⊎_elim, ℕ, ◌<◌, ◌≤◌, List, ap, ap₂, sym, subst, arith}
use Rattle.race_model.specs.Prelude.{Board, IsPosition, pips, roll_at, rank, at_rank, count_to, Book, IsPlayedIn}
use Rattle.race_model.specs.Prelude.{whole_in, IsBestIn, IsLocalOver, whole, IsLocalDatabase, IsFile, bound_of, book_of}
use Rattle.race_model.specs.Prelude.{board_book, IsBoardFile, IsWritten, HoldsOnBoard, AsksOnBoard, IsFirstBoardFault}
use Rattle.race_model.specs.Prelude.{IsLocalBoard, Test, play_test, least_test, mean_test, spread_test, rank_of}
use Rattle.race_model.specs.Prelude.{place_of, HoldsOver, AsksIn, IsFirstFailing, Holds, Asks, IsFirstFault}
use Rattle.race_model.proofs.Dice.Throws.{roll_of_index, by_index}
use Rattle.race_model.proofs.Ranks.RankOrder.{at_rank_position, rank_bound, at_rank-rank}
use Rattle.race_model.proofs.Ranks.PositionTotals.{rank-at_rank, count_to-most}

-- a rank under the count of a bound is that of a position of at most the bound
pub within_bound : (bound r : ℕ) → r < count_to bound →
    IsPosition (at_rank r) × (pips (at_rank r) ≤ bound)
within_bound bound r under = (
  at_rank_position r,
  (rank_bound (at_rank r) bound (at_rank_position r)).0 (subst (λ k. k < count_to bound)
      (sym (rank-at_rank r (below (count_to bound) under (count_to-most bound)))) under),
)
  where
    below : (c : ℕ) → r < c → c ≤ 54264 → r < 54264
    below c h le = omega arith

-- of a book each question that is asked is answered yes exactly where its equations hold
module _ (whole : ℕ) (b : Book) where
  pub answers_in : ((x : Board) → IsPosition x → pips x ≤ b.bound → IsLocalOver whole b x) →
      (t : Test) → AsksIn b t → HoldsOver whole b t
  answers_in local (play_test r i) asked =
      let place = within_bound b.bound r asked.0 in
      (local (at_rank r) place.0 place.1).means.played (roll_at i) (roll_of_index i asked.1).0
  answers_in local (least_test r i) asked =
      let place = within_bound b.bound r asked.0 in
      (local (at_rank r) place.0 place.1).means.best (roll_at i) (roll_of_index i asked.1).0
  answers_in local (mean_test r) asked =
      let place = within_bound b.bound r asked in
      (local (at_rank r) place.0 place.1).means.mean_is
  answers_in local (spread_test r k) asked =
      let place = within_bound b.bound r asked.0 in
      (local (at_rank r) place.0 place.1).shares k asked.1

  -- where each question that is asked is answered yes, the equations of the book hold
  pub local_of_answers_in : ((t : Test) → AsksIn b t → HoldsOver whole b t) → (x : Board) →
      IsPosition x → pips x ≤ b.bound → IsLocalOver whole b x
  local_of_answers_in yes_all x at low =
      subst (IsLocalOver whole b) (at_rank-rank x at)
      (of_rank (rank x) ((rank_bound x b.bound at).1 low))
    where
      of_rank : (r : ℕ) → r < count_to b.bound → IsLocalOver whole b (at_rank r)
      of_rank r under = record {
        means = record {
          played =
              by_index (IsPlayedIn b (at_rank r)) (λ i le. yes_all (play_test r i) (under, le));
          best =
              by_index (IsBestIn b (at_rank r)) (λ i le. yes_all (least_test r i) (under, le));
          mean_is = yes_all (mean_test r) under;
        };
        shares = λ k le. yes_all (spread_test r k) (under, le);
      }

-- two questions that are asked and of which neither is earlier are one
pub same_question : (b : Book) (t u : Test) → AsksIn b t → AsksIn b u → rank_of t ≡ rank_of u →
    place_of t ≡ place_of u → t ≡ u
same_question w (play_test r i) (play_test q j) a b e h = ap₂ play_test e (omega arith)
same_question w (play_test r i) (least_test q j) a b e h = absurd (omega (arith, a.1, b.1))
same_question w (play_test r i) (mean_test q) a b e h = absurd (omega (arith, a.1))
same_question w (play_test r i) (spread_test q j) a b e h = absurd (omega (arith, a.1))
same_question w (least_test r i) (play_test q j) a b e h = absurd (omega (arith, a.1, b.1))
same_question w (least_test r i) (least_test q j) a b e h = ap₂ least_test e (omega arith)
same_question w (least_test r i) (mean_test q) a b e h = absurd (omega (arith, a.1))
same_question w (least_test r i) (spread_test q j) a b e h = absurd (omega (arith, a.1))
same_question w (mean_test r) (play_test q j) a b e h = absurd (omega (arith, b.1))
same_question w (mean_test r) (least_test q j) a b e h = absurd (omega (arith, b.1))
same_question w (mean_test r) (mean_test q) a b e h = ap mean_test e
same_question w (mean_test r) (spread_test q j) a b e h = absurd (omega (arith))
same_question w (spread_test r i) (play_test q j) a b e h = absurd (omega (arith, b.1))
same_question w (spread_test r i) (least_test q j) a b e h = absurd (omega (arith, b.1))
same_question w (spread_test r i) (mean_test q) a b e h = absurd (omega (arith))
same_question w (spread_test r i) (spread_test q j) a b e h = ap₂ spread_test e (omega arith)

-- there is at most one first answer that is no
pub one_fault : (b : Book) (holds : Test → Type 0) (t u : Test)
    → IsFirstFailing (AsksIn b) holds t →
    IsFirstFailing (AsksIn b) holds u → t ≡ u
one_fault b holds t u first second = ⊎_elim
    (λ earlier. absurd (first.fails (second.earlier t first.is_asked earlier)))
    (λ rest.
    ⊎_elim (λ earlier. absurd (second.fails (first.earlier u second.is_asked earlier)))
    (λ same. same_question b t u first.is_asked second.is_asked same.0 same.1) rest)
    (compare (rank_of t) (rank_of u) (place_of t) (place_of u))
  where
    compare : (r q a b : ℕ) →
        ((r < q) ⊎ ((r ≡ q) × (a < b))) ⊎ (((q < r) ⊎ ((q ≡ r) × (b < a))) ⊎ ((r ≡ q) × (a ≡ b)))
    compare r q a b = grind arith

-- a locally right file is one whose questions are all answered yes
pub local_of_answers : (f : List ℕ) → IsFile f → ((t : Test) → Asks f t → Holds f t) →
    IsLocalDatabase f
local_of_answers f file yes_all =
    record {
      file = file;
      written = λ x at low. tt;
      at_each = local_of_answers_in whole (book_of f) yes_all;
    }

-- a file that has a first fault is not locally right
pub fault_refuses : (f : List ℕ) (t : Test) → IsFirstFault (Asks f) f t → ¬ IsLocalDatabase f
fault_refuses f t fault local =
    fault.fails (answers_in whole (book_of f) local.at_each t fault.is_asked)

-- in a locally right board file each question that is asked is answered yes
pub board_answers : (f : List ℕ) → IsLocalBoard f → (t : Test) → AsksOnBoard f t → HoldsOnBoard f t
board_answers f local t asked = by t asked
  where
    holds : (t : Test) → AsksOnBoard f t → HoldsOver (whole_in (board_book f)) (board_book f) t
    holds =
        answers_in (whole_in (board_book f)) (board_book f) local.at_each

    by : (t : Test) → AsksOnBoard f t → HoldsOnBoard f t
    by (play_test r i) asked = holds (play_test r i) asked
    by (least_test r i) asked = holds (least_test r i) asked
    by (mean_test r) asked =
        let place = within_bound (bound_of f) r asked in
        ((local.written (at_rank r) place.0 place.1).mean, holds (mean_test r) asked)
    by (spread_test r k) asked =
        let place = within_bound (bound_of f) r asked.0 in (
          (local.written (at_rank r) place.0 place.1).counts k asked.1,
          holds (spread_test r k) asked,
        )

-- a board file of which each question is answered yes is locally right
pub board_of_answers : (f : List ℕ) → IsBoardFile f →
    ((t : Test) → AsksOnBoard f t → HoldsOnBoard f t) → IsLocalBoard f
board_of_answers f file yes_all = record {
  file = file;
  written =
      λ x at low.
      subst (IsWritten f) (at_rank-rank x at)
      (written (rank x) ((rank_bound x (bound_of f) at).1 low));
  at_each = local_of_answers_in (whole_in (board_book f)) (board_book f) holds;
} where
  holds : (t : Test) → AsksOnBoard f t → HoldsOver (whole_in (board_book f)) (board_book f) t
  holds (play_test r i) asked = yes_all (play_test r i) asked
  holds (least_test r i) asked = yes_all (least_test r i) asked
  holds (mean_test r) asked = (yes_all (mean_test r) asked).1
  holds (spread_test r k) asked = (yes_all (spread_test r k) asked).1

  written : (r : ℕ) → r < count_to (bound_of f) → IsWritten f (at_rank r)
  written r under = record {
    mean = (yes_all (mean_test r) under).0;
    counts = λ k le. (yes_all (spread_test r k) (under, le)).0;
  }

-- a board file that has a first fault is not locally right
pub board_fault_refuses : (f : List ℕ) (t : Test) → IsFirstBoardFault f t → ¬ IsLocalBoard f
board_fault_refuses f t fault local = fault.fails (board_answers f local t fault.is_asked)
