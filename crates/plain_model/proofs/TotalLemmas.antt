-- The rolls over all sequences of two throws, by the places of the first throw.
use Rattle.std.proofs.Common.{◌≡◌, ℕ, zero, suc, ◌+◌, ◌*◌, ◌<◌, ◌≤◌, Bool, true, false, cond, eqb, List, length, get_or}
use Rattle.std.proofs.Common.{refl, ap, sym, ◌∙◌, add-one, lit≤, arith, ◌==◌, if◌then◌else◌, sum_by}
use Rattle.std.proofs.lemmas.List.{get_or_default}
use Rattle.race_model.specs.Prelude.{Board, checkers, finished, Throw, throws, Strategy, stop, turn, total_over}
use Rattle.race_model.specs.Prelude.{count_over}
use Rattle.race_model.proofs.Numbers.Sums.{sum_by-equal, sum_by-constant}
use Rattle.race_model.proofs.Dice.RollSums.{length-throws}
use Rattle.race_model.proofs.Strategies.Histories.{over, over-none, over-stop, over-turn}
use Rattle.race_model.proofs.Strategies.Histories.{total_over-over, count_over-over, one_at}
use Rattle.plain_model.specs.TwoTurns.{place_of, begins_with, rolls_of_two}

-- a number that goes by the rolls, added up over all
-- sequences whose first throw has one of the first n places
unfoldable pub added_to : (ℕ → ℕ) → Board → List Board → ℕ → ℕ
added_to h x plays zero = 0
added_to h x plays (suc n) =
    added_to h x plays n + 36 * h (rolls_of_two x (get_or plays n finished))

-- none at the start
pub added_to-zero : (h : ℕ → ℕ) (x : Board) (plays : List Board) → added_to h x plays 0 ≡ 0
unfolding added_to
added_to-zero h x plays = refl

-- one place more
pub added_to-next : (h : ℕ → ℕ) (x : Board) (plays : List Board) (n : ℕ) (after : Board) →
    n < length plays → after ≡ get_or plays n after →
    added_to h x plays (n + 1) ≡ added_to h x plays n + 36 * h (rolls_of_two x after)
unfolding added_to
added_to-next h x plays n after within is =
    rw add-one
    (ap (λ y. added_to h x plays n + 36 * h (rolls_of_two x y))
    (get_or_default plays n finished after within ∙ sym is))

-- there is not too much to add up
pub added_to-bound : (h : ℕ → ℕ) (most : ℕ) (x : Board) (plays : List Board) (n : ℕ) →
    ((y : Board) → h (rolls_of_two x y) ≤ most) → added_to h x plays n ≤ 36 * most * n
unfolding added_to
added_to-bound h most x plays zero few = omega arith
added_to-bound h most x plays (suc n) few =
    omega (arith, added_to-bound h most x plays n few, few (get_or plays n finished))

-- at most two rolls are needed of two
pub rolls_of_two-most : (x y : Board) → rolls_of_two x y ≤ 2
rolls_of_two-most x y = by (eqb (checkers x) 0) (eqb (checkers y) 0)
  where
    by : (b c : Bool) → cond {A = ℕ} b 0 (cond c 1 2) ≤ 2
    by true c = lit≤ tt
    by false true = lit≤ tt
    by false false = lit≤ tt

-- a sequence is counted once at most
pub one_at-most : (k r : ℕ) → one_at k r ≤ 1
one_at-most k r = by (eqb r k)
  where
    by : (b : Bool) → cond {A = ℕ} b 1 0 ≤ 1
    by true = lit≤ tt
    by false = lit≤ tt

-- each throw has one of the 36 places
added_to-by_places : (h : ℕ → ℕ) (x : Board) (plays : List Board) →
    added_to h x plays 36
    ≡ sum_by (λ v. 36 * h (rolls_of_two x (get_or plays (place_of v) finished))) throws
unfolding throws added_to
added_to-by_places h x plays = refl

-- over one throw a strategy needs one roll in each of the 36 sequences, unless it stops
over-one : (b : Bool) (to : Throw → Board) (next : Throw → Strategy) (h : ℕ → ℕ) →
    over 1 (cond b stop (turn to next)) h ≡ 36 * h (cond b 0 1)
over-one true to next h = over-stop 1 h ∙ omega arith
over-one false to next h =
    over-turn 0 to next h
    ∙ sum_by-equal (λ v. over 0 (next v) (λ k. h (suc k))) (λ v. h 1) throws
    (λ v. over-none (next v) (λ k. h (suc k)))
    ∙ sum_by-constant (h 1) throws
    ∙ ap (λ n. h 1 * n) length-throws
    ∙ omega arith

-- over two throws, by the first of them
over-two : (b : Bool) (c : Throw → Bool) (first : Throw → Board) (second : Throw → Throw → Board)
    (later : Throw → Throw → Strategy) (h : ℕ → ℕ) →
    over 2 (cond b stop (turn first (λ v. cond (c v) stop (turn (second v) (later v))))) h
    ≡ sum_by (λ v. 36 * h (cond b 0 (cond (c v) 1 2))) throws
over-two true c first second later h =
    over-stop 2 h ∙ omega arith ∙ ap (λ n. 36 * h 0 * n) (sym length-throws)
    ∙ sym (sum_by-constant (36 * h 0) throws)
over-two false c first second later h =
    over-turn 1 first (λ v. cond (c v) stop (turn (second v) (later v))) h
    ∙ sum_by-equal _ (λ v. 36 * h (cond (c v) 1 2)) throws
    (λ v.
    over-one (c v) (second v) (later v) (λ k. h (suc k))
    ∙ ap (λ n. 36 * h n) (one_more (c v)))
  where
    one_more : (d : Bool) → suc (cond d 0 1) ≡ cond d 1 2
    one_more true = refl
    one_more false = refl

-- what was added up by the places is the sum over all sequences of two throws
added_to-over : (h : ℕ → ℕ) (x : Board) (plays : List Board) (second : Throw → Throw → Board)
    (later : Throw → Throw → Strategy) →
    added_to h x plays 36 ≡ over 2 (begins_with x plays second later) h
added_to-over h x plays second later =
    added_to-by_places h x plays
    ∙ sym
    (over-two (eqb (checkers x) 0) (λ v. eqb (checkers (get_or plays (place_of v) finished)) 0)
    (λ v. get_or plays (place_of v) finished) second later h)

-- the rolls, added up, are the total over two throws
pub added_to-total : (x : Board) (plays : List Board) (second : Throw → Throw → Board)
    (later : Throw → Throw → Strategy) →
    added_to (λ k. k) x plays 36 ≡ total_over 2 (begins_with x plays second later)
added_to-total x plays second later =
    added_to-over (λ k. k) x plays second later
    ∙ sym (total_over-over 2 (begins_with x plays second later))

-- the sequences with so many rolls are counted
pub added_to-count : (k : ℕ) (x : Board) (plays : List Board) (second : Throw → Throw → Board)
    (later : Throw → Throw → Strategy) →
    added_to (one_at k) x plays 36 ≡ count_over 2 (begins_with x plays second later) k
added_to-count k x plays second later =
    added_to-over (one_at k) x plays second later
    ∙ sym (count_over-over 2 (begins_with x plays second later) k)

-- all 36 second throws are counted, or none
pub counted_or_not : (k r : ℕ) → (if r == k then 36 else 0) ≡ 36 * one_at k r
counted_or_not k r = by (eqb r k)
  where
    by : (b : Bool) → cond {A = ℕ} b 36 0 ≡ 36 * cond b 1 0
    by true = refl
    by false = refl
