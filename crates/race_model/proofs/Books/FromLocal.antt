-- A book that meets the local equations is right: no strategy has a total under the mean that it
-- says, and the strategy that plays what it says has that total, and the shares.
use Rattle.std.proofs.Common.{◌≡◌, ⊎_elim, ℕ, zero, suc, ◌+◌, ◌*◌, ◌^◌, ◌≤◌, sum_by, cond, eq-eqb}
use Rattle.std.proofs.Common.{ne_eqb, refl, ap, sym, subst, ◌∙◌, arith, le_trans, le_of_lt}
use Rattle.race_model.specs.Prelude.{Board, IsPosition, IsFinished, checkers, pips, Throw, throws, weighted, Legal}
use Rattle.race_model.specs.Prelude.{rank, Strategy, stop, turn, Fits, IsWithin, EndsIn, total_over, count_over, Book}
use Rattle.race_model.specs.Prelude.{mean_in, play_in, recorded_in, share_in, IsPlayedIn, follow_in, IsRightBook}
use Rattle.race_model.specs.Prelude.{IsBestIn, IsLocalIn, IsLocalBook, IsLong}
use Rattle.race_model.proofs.Dice.Throws.{played_by_rolls, best_by_rolls}
use Rattle.race_model.proofs.Numbers.Sums.{sum_by-equal, sum_by-at_most}
use Rattle.race_model.proofs.Dice.RollSums.{sum_by-throws}
use Rattle.race_model.proofs.Plays.Results.{legal_position, legal_pips, finished_or_not}
use Rattle.race_model.proofs.Strategies.Histories.{fits_within, within_up, count_over-turn_none}
use Rattle.race_model.proofs.Strategies.Horizons.{ends_in_33}
use Rattle.race_model.proofs.Strategies.Totals.{total_over-turn_times_36, count_over-turn_times_36}
use Rattle.race_model.proofs.Strategies.Totals.{total_over-stop, count_over-stop, count_over-stop_more}

-- the strategy that plays what a book says stops where the board is empty
pub follow_in-finished : (f : Book) (n : ℕ) (x : Board) → IsFinished x → follow_in f n x ≡ stop
unfolding follow_in
follow_in-finished f zero x none = refl
follow_in-finished f (suc n) x none =
    ap (λ b. cond b stop (turn (recorded_in f x) (λ v. follow_in f n (recorded_in f x v))))
    (eq-eqb (checkers x) 0 none)

-- the strategy that plays what a book says plays on where the board is not empty
pub follow_in-unfinished : (f : Book) (n : ℕ) (x : Board) → ¬ IsFinished x →
    follow_in f (suc n) x ≡ turn (recorded_in f x) (λ v. follow_in f n (recorded_in f x v))
unfolding follow_in
follow_in-unfinished f n x unfinished =
    ap (λ b. cond b stop (turn (recorded_in f x) (λ v. follow_in f n (recorded_in f x v))))
    (ne_eqb (checkers x) 0 unfinished)

-- a position that meets the local equations
module _ (f : Book) (x : Board) (here : IsLocalIn f x) where
  -- what is said for the 21 rolls is so for the 36 throws
  pub played_in : (v : Throw) → IsPlayedIn f x v
  played_in = played_by_rolls f x here.means.played

  -- the plays that are said for the 21 rolls are least for the 36 throws
  best_in : (v : Throw) → IsBestIn f x v
  best_in = best_by_rolls f x here.means.best

-- a strategy from x that has the mean and the shares that a book says
pub record Reaches (f : Book) (s : Strategy) (x : Board) : Type 0 where
  pub fits : Fits s x
  pub total_is : total_over (suc f.further) s ≡ mean_in f x
  pub counts : (k : ℕ) → k ≤ suc f.further → share_in f x k ≡ count_over (suc f.further) s k

-- a turn, and then strategies that have what a book says of where it plays
module _ (f : Book) (to : Throw → Board) (next : Throw → Strategy)
    (within : (v : Throw) → IsWithin f.further (next v))
    (reached : (v : Throw) → Reaches f (next v) (to v)) where
  -- its total, by the means
  pub turn_total : 36 * total_over (suc f.further) (turn to next)
      ≡ 36 * 36 ^ suc f.further + sum_by (λ v. mean_in f (to v)) throws
  turn_total =
      total_over-turn_times_36 f.further to next within
      ∙ ap (λ s. 36 * 36 ^ suc f.further + s)
      (sum_by-equal (λ v. total_over (suc f.further) (next v)) (λ v. mean_in f (to v)) throws
      (λ v. (reached v).total_is))

  -- its counts, by the shares
  pub turn_count : (k : ℕ) → k ≤ suc f.further →
      36 * count_over (suc f.further) (turn to next) (suc k)
      ≡ sum_by (λ v. share_in f (to v) k) throws
  turn_count k le =
      count_over-turn_times_36 f.further to next k within
      ∙ sum_by-equal (λ v. count_over (suc f.further) (next v) k) (λ v. share_in f (to v) k) throws
      (λ v. sym ((reached v).counts k le))

-- what a book says for each throw is the rank of a position to which it leads
module _ (f : Book) (x : Board) (played : (v : Throw) → IsPlayedIn f x v) where
  -- the means of these positions, added up by the rolls
  pub mean_sum : sum_by (λ v. mean_in f (recorded_in f x v)) throws
      ≡ weighted (λ v. f.means (play_in f x v))
  mean_sum =
      sum_by-equal (λ v. mean_in f (recorded_in f x v)) (λ v. f.means (play_in f x v)) throws
      (λ v. ap f.means (played v).ranked)
      ∙ sum_by-throws (λ i. f.means (f.plays (rank x) i))

  -- the shares of what is played, added up by the rolls
  pub share_sum : (k : ℕ) → sum_by (λ v. share_in f (recorded_in f x v) k) throws
      ≡ weighted (λ v. f.shares (play_in f x v) k)
  share_sum k =
      sum_by-equal (λ v. share_in f (recorded_in f x v) k) (λ v. f.shares (play_in f x v) k) throws
      (λ v. ap (λ r. f.shares r k) (played v).ranked)
      ∙ sum_by-throws (λ i. f.shares (f.plays (rank x) i) k)

-- from the finished position the strategy that stops has what is said
reached_at_end : (f : Book) (x : Board) → IsFinished x → IsLocalIn f x → Reaches f stop x
reached_at_end f x none here = record {
  fits = none;
  total_is = total_over-stop (suc f.further) ∙ sym (here.means.mean_is.at_end none);
  counts = shares;
} where
  shares : (k : ℕ) → k ≤ suc f.further → share_in f x k ≡ count_over (suc f.further) stop k
  shares zero le = (here.shares 0 le).0 none ∙ sym (count_over-stop (suc f.further))
  shares (suc k) le =
      (here.shares (suc k) le).0 none ∙ sym (count_over-stop_more (suc f.further) k)

-- from another position the turn that plays what is said has it, if what follows has
reached_before : (f : Book) (x : Board) → ¬ IsFinished x → IsLocalIn f x →
    (next : Throw → Strategy) → ((v : Throw) → IsWithin f.further (next v)) →
    ((v : Throw) → Reaches f (next v) (recorded_in f x v)) →
    Reaches f (turn (recorded_in f x) next) x
reached_before f x unfinished here next within reached = record {
  fits = (unfinished, λ v. ((played_in f x here v).legal, (reached v).fits));
  total_is =
      let ours = turn_total f (recorded_in f x) next within reached in
      omega (arith, ours, here.means.mean_is.before unfinished, mean_sum f x (played_in f x here));
  counts = shares;
} where
  shares : (k : ℕ) → k ≤ suc f.further →
      share_in f x k ≡ count_over (suc f.further) (turn (recorded_in f x) next) k
  shares zero le =
      (here.shares 0 le).1 unfinished
      ∙ sym (count_over-turn_none f.further (recorded_in f x) next)
  shares (suc k) le =
      let ours = turn_count f (recorded_in f x) next within reached k (le_of_lt le) in
      let theirs = (here.shares (suc k) le).1 unfinished in
      omega (arith, ours, theirs, share_sum f x (played_in f x here) k)

-- over 33 throws no game is too long for a book
pub whole_board : (f : Book) → f.further ≡ 32 → IsLong f
whole_board f e x at low = subst (λ n. EndsIn n x) (sym (ap suc e)) (ends_in_33 x at)

-- each position of at most the bound of the book meets the local equations
module _ (f : Book) (local : IsLocalBook f) where
  -- no strategy has a total under the mean
  pub no_total_under : (n : ℕ) (x : Board) (s : Strategy) → n ≤ suc f.further → EndsIn n x →
      IsPosition x → pips x ≤ f.bound → Fits s x → mean_in f x ≤ total_over (suc f.further) s
  no_total_under n x stop few ends at low fits =
      let here = (local x at low).means.mean_is.at_end fits in
      omega (arith, here)
  no_total_under zero x (turn to next) few ends at low fits = absurd (fits.0 ends)
  no_total_under (suc n) x (turn to next) few ends at low fits =
      let here = (local x at low).means.mean_is.before fits.0 in
      let after : (v : Throw) → EndsIn n (to v) = λ v. ends fits.0 v (to v) (fits.1 v).0 in
      let ours =
      total_over-turn_times_36 f.further to next
      (λ v.
      within_up n f.further (next v) (omega arith)
      (fits_within n (to v) (next v) (after v) (fits.1 v).1)) in
      let branches =
      sum_by-at_most (λ v. f.means (play_in f x v)) (λ v. total_over (suc f.further) (next v))
      throws
      (λ v.
      le_trans (best_in f x (local x at low) v (to v) (fits.1 v).0)
      (no_total_under n (to v) (next v) (omega arith) (after v)
      (legal_position x v (to v) at (fits.1 v).0)
      (le_trans (legal_pips x v (to v) (fits.1 v).0) low) (fits.1 v).1)) in
      omega (arith, here, ours, branches, sum_by-throws (λ i. f.means (f.plays (rank x) i)))

  -- the strategy that plays what is said has the mean and the shares
  pub follow_reaches : (n : ℕ) (x : Board) → n ≤ suc f.further → EndsIn n x → IsPosition x →
      pips x ≤ f.bound → Reaches f (follow_in f n x) x
  follow_reaches zero x few ends at low =
      subst (λ s. Reaches f s x) (sym (follow_in-finished f zero x ends))
      (reached_at_end f x ends (local x at low))
  follow_reaches (suc n) x few ends at low = ⊎_elim
      (λ none.
      subst (λ s. Reaches f s x) (sym (follow_in-finished f (suc n) x none))
      (reached_at_end f x none (local x at low)))
      (λ unfinished.
      further unfinished
      (λ v.
      follow_reaches n (recorded_in f x v) (omega arith)
      (ends unfinished v (recorded_in f x v) (goes v))
      (legal_position x v (recorded_in f x v) at (goes v))
      (le_trans (legal_pips x v (recorded_in f x v) (goes v)) low)))
      (finished_or_not x)
    where
      goes : (v : Throw) → Legal x v (recorded_in f x v)
      goes v = (played_in f x (local x at low) v).legal

      further : ¬ IsFinished x →
          ((v : Throw) → Reaches f (follow_in f n (recorded_in f x v)) (recorded_in f x v)) →
          Reaches f (follow_in f (suc n) x) x
      further unfinished reached =
          subst (λ s. Reaches f s x) (sym (follow_in-unfinished f n x unfinished))
          (reached_before f x unfinished (local x at low)
          (λ v. follow_in f n (recorded_in f x v))
          (λ v.
          within_up n f.further (follow_in f n (recorded_in f x v)) (omega arith)
          (fits_within n (recorded_in f x v) (follow_in f n (recorded_in f x v))
          (ends unfinished v (recorded_in f x v) (goes v)) (reached v).fits))
          reached)

-- such a book is right, if no game is longer than its sequences
pub right_of_local : (f : Book) → IsLong f → IsLocalBook f → IsRightBook f
right_of_local f long local x at low =
    let reached = follow_reaches f local (suc f.further) x (omega arith) (long x at low) at low in
    record {
      played = played_in f x (local x at low);
      fits = reached.fits;
      mean_is = reached.total_is;
      least = record {
        reached = (follow_in f (suc f.further) x, reached.fits, reached.total_is);
        least =
            λ s. no_total_under f local (suc f.further) x s (omega arith) (long x at low) at low;
      };
      spread_is = reached.counts;
    }
