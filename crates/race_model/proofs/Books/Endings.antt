-- Counts of sequences: what a turn adds, and that shares are the counts of longer sequences.
use Rattle.std.proofs.Common.{◌≡◌, ℕ, zero, suc, ◌+◌, ◌*◌, ◌-◌, ◌^◌, ◌≤◌, ◌↔◌, cond, sum_by, refl, sym, ap}
use Rattle.std.proofs.Common.{◌∙◌, subst, arith, ⊎_elim}
use Rattle.std.proofs.Math.Nat.{pow-suc, one-le-pow, eq_of_mul-eq-mul_right}
use Rattle.race_model.specs.Prelude.{Board, IsPosition, pips, Throw, throws, weight, all_rolls, weighted, rank}
use Rattle.race_model.specs.Prelude.{Strategy, stop, turn, IsWithin, count_over, sequences, Book, play_in, recorded_in}
use Rattle.race_model.specs.Prelude.{follow_in, IsRightBook, HasShareIn, is_ended_by, endings, IsCounted, HasCountIn}
use Rattle.race_model.proofs.Numbers.Sums.{sum_by-equal, sum_by-times, sum_by-zero}
use Rattle.race_model.proofs.Strategies.Histories.{sum_by-sequences, count_over-turn, count_over-turn_none}
use Rattle.race_model.proofs.Strategies.Totals.{count_over-stop, count_over-stop_more}
use Rattle.race_model.proofs.Books.FromLocal.{follow_in-finished, follow_in-unfinished}
use Rattle.race_model.proofs.Plays.Results.{finished_or_not}

-- the game that is over ends with no throw
pub endings-stop : endings stop 0 ≡ 1
unfolding endings sequences
endings-stop = refl

-- the game that is over ends with no later throw
pub endings-stop_more : (k : ℕ) → endings stop (suc k) ≡ 0
unfolding endings
endings-stop_more k =
    sum_by-sequences k (λ w. cond (is_ended_by stop w) 1 0)
    ∙ sum_by-zero (λ v. sum_by (λ w. 0) (sequences k)) throws
    (λ v. sum_by-zero (λ w. 0) (sequences k) (λ w. refl))

-- a turn takes a throw
pub endings-turn_none : (to : Throw → Board) (next : Throw → Strategy) →
    endings (turn to next) 0 ≡ 0
unfolding endings sequences
endings-turn_none to next = refl

-- after a turn's throw what goes on ends with one throw fewer
pub endings-turn : (to : Throw → Board) (next : Throw → Strategy) (k : ℕ) →
    endings (turn to next) (suc k) ≡ sum_by (λ v. endings (next v) k) throws
unfolding endings
endings-turn to next k = sum_by-sequences k (λ w. cond (is_ended_by (turn to next) w) 1 0)

-- after no throw all are further ones
all_further : (further m : ℕ) → 0 + further ≡ m → further ≡ m
all_further further m e = omega arith

-- the sequences of m throws that need exactly k are those that begin with an end at the k-th
pub count_over-endings : (s : Strategy) (m k further : ℕ) → k + further ≡ m → IsWithin m s →
    count_over m s k ≡ endings s k * 36 ^ further
count_over-endings stop m zero further e within =
    omega (
      arith,
      count_over-stop m,
      ap (λ n. n * 36 ^ further) endings-stop,
      ap (λ n. 36 ^ n) (all_further further m e),
    )
count_over-endings stop m (suc k) further e within =
    omega (arith, count_over-stop_more m k, ap (λ n. n * 36 ^ further) (endings-stop_more k))
count_over-endings (turn to next) zero k further e within = absurd within
count_over-endings (turn to next) (suc m) zero further e within =
    omega (
      arith,
      count_over-turn_none m to next,
      ap (λ n. n * 36 ^ further) (endings-turn_none to next),
    )
count_over-endings (turn to next) (suc m) (suc k) further e within =
    count_over-turn m to next k
    ∙ sum_by-equal (λ v. count_over m (next v) k)
    (λ v. 36 ^ further * endings (next v) k) throws
    (λ v. omega (arith, count_over-endings (next v) m k further (omega (arith, e)) (within v)))
    ∙ sum_by-times (36 ^ further) (λ v. endings (next v) k) throws
    ∙ omega (arith, ap (λ n. 36 ^ further * n) (endings-turn to next k))

-- the strategy that plays what a book says has at most as many turns as it is given
pub follow_in-within : (f : Book) (n : ℕ) (x : Board) → IsWithin n (follow_in f n x)
unfolding follow_in
follow_in-within f zero x = tt
follow_in-within f (suc n) x = ⊎_elim
    (λ none. subst (λ s. IsWithin (suc n) s) (sym (follow_in-finished f (suc n) x none)) tt)
    (λ unfinished.
    subst (λ s. IsWithin (suc n) s) (sym (follow_in-unfinished f n x unfinished))
    (λ v. follow_in-within f n (recorded_in f x v)))
    (finished_or_not x)

-- a power of 36 can be left out on both sides
cancel_power : (further m n : ℕ) → m * 36 ^ further ≡ n * 36 ^ further → m ≡ n
cancel_power further m n e =
    eq_of_mul-eq-mul_right (36 ^ further) (one-le-pow further 36 (omega arith)) m n e

-- counts that say what the shares of a book say
module _ (f : Book) (counts : ℕ → ℕ → ℕ) (counted : IsCounted f counts) where
  -- the equation of shares at k + 1 rolls, by counts
  weighted_shares : (g : Throw → ℕ) (k further : ℕ) → suc k + further ≡ suc f.further →
      weighted (λ v. f.shares (g v) k) ≡ weighted (λ v. counts (g v) k) * 36 ^ suc further
  weighted_shares g k further e =
      sum_by-equal (λ v. weight v * f.shares (g v) k)
      (λ v. 36 ^ suc further * (weight v * counts (g v) k)) all_rolls
      (λ v.
      let said = counted (g v) k (suc further) (omega (arith, e)) in
      ap (λ n. weight v * n) said ∙ omega arith)
      ∙ sum_by-times (36 ^ suc further) (λ v. weight v * counts (g v) k) all_rolls
      ∙ omega arith

  -- from shares to counts, at k rolls and further ones
  counts_of_shares : (x : Board) (k further : ℕ) → k + further ≡ suc f.further →
      HasShareIn f x k → HasCountIn f counts x k
  counts_of_shares x zero further e here = (
    λ none. cancel_power further (counts (rank x) 0) 1
        (omega (
          arith,
          counted (rank x) 0 further e,
          here.0 none,
          ap (λ n. 36 ^ n) (all_further further (suc f.further) e),
        )),
    λ unfinished. cancel_power further (counts (rank x) 0) 0
        (omega (arith, counted (rank x) 0 further e, here.1 unfinished)),
  )
  counts_of_shares x (suc k) further e here = (
    λ none. cancel_power further (counts (rank x) (suc k)) 0
        (omega (arith, counted (rank x) (suc k) further e, here.0 none)),
    λ unfinished. cancel_power (suc further) _ _
        (let said = counted (rank x) (suc k) further e in
        let added = weighted_shares (play_in f x) k further e in
        let power = pow-suc 36 further in
        omega (arith, here.1 unfinished, said, added, ap (λ n. counts (rank x) (suc k) * n) power)),
  )

  -- from counts to shares, at k rolls and further ones
  shares_of_counts : (x : Board) (k further : ℕ) → k + further ≡ suc f.further →
      HasCountIn f counts x k → HasShareIn f x k
  shares_of_counts x zero further e here = (
    λ none.
        omega (
          arith,
          counted (rank x) 0 further e,
          ap (λ n. n * 36 ^ further) (here.0 none),
          ap (λ n. 36 ^ n) (all_further further (suc f.further) e),
        ),
    λ unfinished.
        omega (
          arith,
          counted (rank x) 0 further e,
          ap (λ n. n * 36 ^ further) (here.1 unfinished),
        ),
  )
  shares_of_counts x (suc k) further e here = (
    λ none.
        omega (
          arith,
          counted (rank x) (suc k) further e,
          ap (λ n. n * 36 ^ further) (here.0 none),
        ),
    λ unfinished.
        let said = counted (rank x) (suc k) further e in
        let added = weighted_shares (play_in f x) k further e in
        let power = pow-suc 36 further in
        let same = ap (λ n. n * 36 ^ suc further) (here.1 unfinished) in
        omega (arith, said, added, same, ap (λ n. counts (rank x) (suc k) * n) power),
  )

  -- the equation of shares says what that of counts says
  pub share_is_count : (x : Board) (k : ℕ) → k ≤ suc f.further →
      HasShareIn f x k ↔ HasCountIn f counts x k
  share_is_count x k le = (
    counts_of_shares x k (suc f.further - k) (omega (arith, le)),
    shares_of_counts x k (suc f.further - k) (omega (arith, le)),
  )

  -- in a right book the counts are those of the strategy that plays what the book says
  pub counts_are_endings : IsRightBook f → (x : Board) → IsPosition x → pips x ≤ f.bound →
      (k : ℕ) → k ≤ suc f.further →
      counts (rank x) k ≡ endings (follow_in f (suc f.further) x) k
  counts_are_endings right x at low k le = cancel_power (suc f.further - k) _ _ equal
    where
      all : k + (suc f.further - k) ≡ suc f.further
      all = omega (arith, le)

      s : Strategy
      s = follow_in f (suc f.further) x

      equal : counts (rank x) k * 36 ^ (suc f.further - k) ≡ endings s k * 36 ^ (suc f.further - k)
      equal =
          sym (counted (rank x) k (suc f.further - k) all)
          ∙ (right x at low).spread_is k le
          ∙ count_over-endings s (suc f.further) k (suc f.further - k) all
          (follow_in-within f (suc f.further) x)
