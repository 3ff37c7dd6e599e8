-- A turn before strategies that are known by their means and shares.
use Rattle.std.proofs.Common.{◌≡◌, ⊎_elim, ℕ, zero, suc, ◌+◌, ◌*◌, ◌%◌, ◌<◌, ◌≤◌, List, sum_by, sym, subst, ◌∙◌, arith}
use Rattle.std.proofs.Common.{le_of_lt, slice_index}
use Rattle.std.specs.List.{range_with_len}
use Rattle.std.proofs.lemmas.List.Sums.{sum_by-cons}
use Rattle.std.proofs.Math.Nat.{mul-mod_right, mul-le-mul_left}
use Rattle.race_model.specs.Prelude.{Board, IsPosition, IsFinished, pips, Throw, reversed, IsRoll, throws, roll_at}
use Rattle.race_model.specs.Prelude.{roll_index, Legal, at_rank, most_rolls, whole, Strategy, stop, turn, Fits, total}
use Rattle.race_model.specs.Prelude.{count_of, IsWithin, EndsIn}
use Rattle.race_model.proofs.Dice.Throws.{roll_or_reversed, index_of_roll, roll_index-reversed, legal_reversed}
use Rattle.race_model.proofs.Numbers.Sums.{sum_by-equal}
use Rattle.race_model.proofs.Dice.RollSums.{sum_by-throws}
use Rattle.race_model.proofs.Strategies.Histories.{fits_within, count_over-turn_none, count_over-beyond}
use Rattle.race_model.proofs.Strategies.Horizons.{ends_in_22, ends_in_most, within_22}
use Rattle.race_model.proofs.Strategies.Spreads.{counts_add_up, counts_weigh}
use Rattle.race_model.proofs.Strategies.Totals.{total_over-turn_times_36, count_over-turn_times_36}
use Rattle.race_model.proofs.Strategies.Totals.{total_over-stop, count_over-stop, count_over-stop_more}
use Rattle.retrograde.specs.BuiltRecords.{IsReached, shares_of, sum_of_means, sum_of_shares}

-- what is legal for each roll is legal for each throw
pub legal-by_index : (x : Board) (to : ℕ → Board) →
    ((i : ℕ) → i < 21 → Legal x (roll_at i) (to i)) → (v : Throw) → Legal x v (to (roll_index v))
legal-by_index x to legal v =
    ⊎_elim (by_roll v)
    (λ is.
    subst (λ (i : ℕ). Legal x v (to i)) (roll_index-reversed v)
    (legal_reversed x (reversed v) (to (roll_index (reversed v)))
    (by_roll (reversed v) is))) (roll_or_reversed v)
  where
    by_roll : (u : Throw) → IsRoll u → Legal x u (to (roll_index u))
    by_roll u is =
        subst (λ (w : Throw). Legal x w (to (roll_index u))) (index_of_roll u is).1
        (legal (roll_index u) (index_of_roll u is).0)

-- no count goes beyond the rolls that a strategy can take
pub no-count_beyond : (s : Strategy) (n k : ℕ) → IsWithin n s → n < k → count_of s k ≡ 0
no-count_beyond s n k within lt = count_over-beyond 22 n k s within lt

-- a sum of weighed numbers below 23 is at most 22 times that of the numbers
weigh-small : (c : ℕ → ℕ) (a n : ℕ) → a + n ≤ 23 →
    sum_by (λ k. c k * k) (range_with_len a n) ≤ 22 * sum_by c (range_with_len a n)
weigh-small c a zero le = omega arith
weigh-small c a (suc n) le =
    let tail = range_with_len (a + 1) n in
    let small : a ≤ 22 = omega arith in
    omega (
      arith,
      sum_by-cons (λ k. c k * k) a tail,
      sum_by-cons c a tail,
      weigh-small c (a + 1) n (omega arith),
      mul-le-mul_left (c a) small,
    )

-- a total is at most 22 rolls
pub total-small : (s : Strategy) → IsWithin 22 s → total s ≤ 22 * whole
total-small s within =
    omega (
      arith,
      counts_weigh s within,
      counts_add_up s within,
      weigh-small (count_of s) 0 23 (omega arith),
    )

-- from an unfinished position, a throw plays to the position
-- of a rank, and goes on with a strategy of a mean and shares
module _ (x : Board) (at : IsPosition x) (low : pips x ≤ 58) (unfinished : ¬ IsFinished x)
    (means : List ℕ) (spreads : List (List ℕ)) (plays : List ℕ)
    (legal : (i : ℕ) → i < 21 → Legal x (roll_at i) (at_rank (slice_index plays i)))
    (reached : (v : Throw) →
    IsReached (at_rank (slice_index plays (roll_index v)))
    (slice_index means (slice_index plays (roll_index v)))
    (shares_of spreads (slice_index plays (roll_index v)))) where
  to : Throw → Board
  to v = at_rank (slice_index plays (roll_index v))

  next : Throw → Strategy
  next v = (reached v).strategy

  goes : (v : Throw) → Legal x v (to v)
  unfolding to
  goes v = legal-by_index x (λ i. at_rank (slice_index plays i)) legal v

  within : (v : Throw) → IsWithin 21 (next v)
  unfolding to next
  within v =
      fits_within 21 (to v) (next v) (ends_in_22 x at low unfinished v (to v) (goes v))
      (reached v).fits

  fits : Fits (turn to next) x
  unfolding to next
  fits = (unfinished, λ v. (goes v, (reached v).fits))

  total-is : 36 * total (turn to next) ≡ 36 * whole + sum_of_means means plays
  unfolding to next whole
  total-is =
      let ours = total_over-turn_times_36 21 to next within in
      let branches =
      sum_by-equal (λ v. total (next v))
      (λ v. slice_index means (slice_index plays (roll_index v))) throws
      (λ v. (reached v).total_is) in
      omega (arith, ours, branches, sum_by-throws (λ i. slice_index means (slice_index plays i)))

  count-is : (k : ℕ) → k ≤ 22 →
      36 * count_of (turn to next) (suc k) ≡ sum_of_shares spreads plays k
  unfolding to next
  count-is k le =
      let ours = count_over-turn_times_36 21 to next k within in
      let branches =
      sum_by-equal (λ v. count_of (next v) k)
      (λ v. slice_index (shares_of spreads (slice_index plays (roll_index v))) k) throws
      (λ v. (reached v).counts k le) in
      omega (
        arith,
        ours,
        branches,
        sum_by-throws (λ i. slice_index (shares_of spreads (slice_index plays i)) k),
      )

  -- the mean can be pulled exactly
  pub mean-exact : (mean : ℕ)
      × ((mean ≤ 22 * whole) × (36 * mean ≡ 36 * whole + sum_of_means means plays))
  mean-exact = (
    total (turn to next),
    (total-small (turn to next) (within_22 x (turn to next) at low fits), total-is),
  )

  -- the shares can be pulled exactly
  pub shares-exact : (k : ℕ) → k < 22 → sum_of_shares spreads plays k % 36 ≡ 0
  shares-exact k lt =
      rw (← count-is k (le_of_lt lt)) (mul-mod_right 36 (count_of (turn to next) (suc k)))

  -- no throw goes on for as many rolls as a game from here can take
  pub none-beyond : (v : Throw) (k : ℕ) → most_rolls (pips x) ≤ k → k ≤ 22 →
      slice_index (shares_of spreads (slice_index plays (roll_index v))) k ≡ 0
  unfolding to next
  none-beyond v k beyond few = by (most_rolls (pips x)) (ends_in_most x at) beyond
    where
      by : (n : ℕ) → EndsIn n x → n ≤ k →
          slice_index (shares_of spreads (slice_index plays (roll_index v))) k ≡ 0
      by zero ends le = absurd (unfinished ends)
      by (suc n) ends le =
          sym ((reached v).counts k few)
          ∙ no-count_beyond (next v) n k
          (fits_within n (to v) (next v) (ends unfinished v (to v) (goes v)) (reached v).fits)
          (omega arith)

  -- a strategy has the mean and the shares that are pulled
  pub pulled-reached : (mean : ℕ) (shares : List ℕ) →
      36 * mean ≡ 36 * whole + sum_of_means means plays → slice_index shares 0 ≡ 0 →
      ((k : ℕ) → k < 22 → 36 * slice_index shares (suc k) ≡ sum_of_shares spreads plays k) →
      IsReached x mean shares
  pulled-reached mean shares mean_is start moved = record {
    strategy = turn to next;
    fits = fits;
    total_is = omega (arith, mean_is, total-is);
    counts = counts;
  } where
    counts : (k : ℕ) → k ≤ 22 → count_of (turn to next) k ≡ slice_index shares k
    counts zero le = count_over-turn_none 21 to next ∙ sym start
    counts (suc k) le = omega (arith, moved k le, count-is k (le_of_lt le))

-- the strategy that stops has the mean and the shares of the finished position
pub stop-reached : (x : Board) (mean : ℕ) (shares : List ℕ) → IsFinished x → mean ≡ 0 →
    slice_index shares 0 ≡ whole → ((k : ℕ) → slice_index shares (suc k) ≡ 0) →
    IsReached x mean shares
unfolding whole
stop-reached x mean shares none mean_is start more = record {
  strategy = stop;
  fits = none;
  total_is = total_over-stop 22 ∙ sym mean_is;
  counts = counts;
}
  where
    counts : (k : ℕ) → k ≤ 22 → count_of stop k ≡ slice_index shares k
    counts zero le = count_over-stop 22 ∙ sym start
    counts (suc k) le = count_over-stop_more 22 k ∙ sym (more k)
