-- What follows of a right book: its shares add up and none is lost where those beyond the horizon
-- are left out, a loss is what a play costs, and it is nothing just where a least strategy begins
-- so.
use Rattle.std.proofs.Common.{◌≡◌, ℕ, suc, ◌+◌, ◌-◌, ◌*◌, ◌^◌, ◌<◌, ◌≤◌, sum_by, Bool, true, false}
use Rattle.std.proofs.Common.{cond, refl, ap, sym, subst, ◌∙◌, arith, le_trans, le_of_eq}
use Rattle.std.specs.List.{range_with_len}
use Rattle.race_model.specs.Prelude.{Board, IsPosition, IsFinished, pips, Throw, throws, Legal, most_rolls, Strategy}
use Rattle.race_model.specs.Prelude.{stop, turn, Fits, IsLeastIn, IsWithin, EndsIn, total_over, count_over, Book}
use Rattle.race_model.specs.Prelude.{mean_in, play_in, recorded_in, share_in, IsPlayedIn, IsLong, follow_in, IsRightIn}
use Rattle.race_model.specs.Prelude.{IsRightBook, loss_in, IsLossIn, BeginsWith}
use Rattle.race_model.proofs.Numbers.Sums.{sum_by-at_most, sum_by-equal_within}
use Rattle.race_model.proofs.Plays.Results.{legal_position, legal_pips}
use Rattle.race_model.proofs.Strategies.Histories.{fits_within, count_over-beyond}
use Rattle.race_model.proofs.Strategies.Horizons.{within_most}
use Rattle.race_model.proofs.Strategies.LeastExists.{least_in_agree}
use Rattle.race_model.proofs.Strategies.Spreads.{counts_add_up_over, counts_weigh_over}
use Rattle.race_model.proofs.Strategies.Totals.{total_over-turn_times_36}
use Rattle.race_model.proofs.Dice.Faces.{is_throw, same_throw}
use Rattle.race_model.proofs.Books.FromRight.{plan, plan_fits, plan_total, mean_before, best_at}
use Rattle.race_model.proofs.Books.FromRight.{one_changed, otherwise_at, otherwise_legal, otherwise_at-here}

-- a position of at most the bound: its results are so too
module _ (b : Book) (right : IsRightBook b) (long : IsLong b) (x : Board)
    (at : IsPosition x) (low : pips x ≤ b.bound) where
  -- the shares add up to all sequences
  pub shares_add_up : sum_by (share_in b x) (range_with_len 0 (suc (suc b.further)))
      ≡ 36 ^ suc b.further
  shares_add_up =
      sum_by-equal_within (share_in b x)
      (count_over (suc b.further) (follow_in b (suc b.further) x)) 0 (suc (suc b.further))
      (λ k below. (right x at low).spread_is k (omega arith))
      ∙ counts_add_up_over (suc b.further) (suc b.further) (follow_in b (suc b.further) x)
      (fits_within (suc b.further) x (follow_in b (suc b.further) x) (long x at low)
      (right x at low).fits)

  -- the shares, each times its number of rolls, add up to the mean
  pub shares_weigh : sum_by (λ k. share_in b x k * k) (range_with_len 0 (suc (suc b.further)))
      ≡ mean_in b x
  shares_weigh =
      sum_by-equal_within (λ k. share_in b x k * k)
      (λ k. count_over (suc b.further) (follow_in b (suc b.further) x) k * k) 0
      (suc (suc b.further))
      (λ k below. ap (λ n. n * k) ((right x at low).spread_is k (omega arith)))
      ∙ counts_weigh_over (suc b.further) (suc b.further) (follow_in b (suc b.further) x)
      (fits_within (suc b.further) x (follow_in b (suc b.further) x) (long x at low)
      (right x at low).fits)
      ∙ (right x at low).mean_is

  -- there is no share beyond the most rolls of the pip count
  pub no_share_beyond : (k : ℕ) → most_rolls (pips x) < k → k ≤ suc b.further → share_in b x k ≡ 0
  no_share_beyond k beyond le =
      (right x at low).spread_is k le
      ∙ count_over-beyond (suc b.further) (most_rolls (pips x)) k (follow_in b (suc b.further) x)
      (within_most x (follow_in b (suc b.further) x) at (right x at low).fits) beyond

  -- what the book says of a result is right
  result_right : (v : Throw) (y : Board) → Legal x v y → IsRightIn b y
  result_right v y leads =
      right y (legal_position x v y at leads) (le_trans (legal_pips x v y leads) low)

  -- what it says for a throw is the least of its results
  pub recorded_least : (v : Throw) (y : Board) → Legal x v y →
      b.means (play_in b x v) ≤ mean_in b y
  recorded_least = best_at b right long x at low

  -- the loss by the book is the loss
  pub loss_is_loss : (v : Throw) (y : Board) → Legal x v y →
      IsLossIn (suc b.further) x v y (loss_in b x v y)
  loss_is_loss v y leads = record {
    after = mean_in b y;
    best = b.means (play_in b x v);
    after_is = (result_right v y leads).least;
    best_reached = (
      recorded_in b x v,
      here.legal,
      subst (IsLeastIn (suc b.further) (recorded_in b x v)) (ap b.means here.ranked)
          (result_right v (recorded_in b x v) here.legal).least,
    );
    best_least =
        λ z t goes_to least.
        subst (λ n. b.means (play_in b x v) ≤ n)
        (least_in_agree (suc b.further) z (mean_in b z) t (result_right v z goes_to).least least)
        (recorded_least v z goes_to);
    loss_is = added (b.means (play_in b x v)) (mean_in b y) (recorded_least v y leads);
  } where
    here : IsPlayedIn b x v
    here = (right x at low).played v

    added : (a b : ℕ) → a ≤ b → a + (b - a) ≡ b
    added a b le = omega arith

  -- from an unfinished position
  module _ (unfinished : ¬ IsFinished x) where
    -- after a throw the game is over a roll sooner
    ends : (v : Throw) (y : Board) → Legal x v y → EndsIn b.further y
    ends = long x at low unfinished

    -- where a result has no loss, the plan to play there and else as is said is a least strategy
    pub begins : (v : Throw) (y : Board) → Legal x v y → loss_in b x v y ≡ 0 →
        (s : Strategy) × Fits s x × IsLeastIn (suc b.further) x (total_over (suc b.further) s)
        × BeginsWith s v y
    unfolding plan
    begins v y leads none = (
      plan b to,
      plan_fits b right long x at low unfinished to legal,
      subst (IsLeastIn (suc b.further) x) (sym totals) (right x at low).least,
      otherwise_at-here v y (recorded_in b x),
    )
      where
        to : Throw → Board
        to = otherwise_at v y (recorded_in b x)

        legal : (u : Throw) → Legal x u (to u)
        legal = otherwise_legal b right long x at low unfinished v y leads

        totals : total_over (suc b.further) (plan b to) ≡ mean_in b x
        totals =
            let ours = plan_total b right long x at low unfinished to legal in
            let before = mean_before b right long x at low unfinished in
            let swapped = one_changed v (mean_in b) y (recorded_in b x) in
            let best = recorded_least v y leads in
            let here = ap b.means ((right x at low).played v).ranked in
            omega (arith, ours, before, swapped, best, here, none)

    -- where a least strategy begins so, the result has no loss
    pub no_loss : (v : Throw) (y : Board) (s : Strategy) → Fits s x →
        IsLeastIn (suc b.further) x (total_over (suc b.further) s) → BeginsWith s v y →
        loss_in b x v y ≡ 0
    no_loss v y stop fits least begun = absurd begun
    no_loss v y (turn to next) fits least begun =
        at_most (mean_in b y) (b.means (play_in b x v)) under
      where
        leads : (u : Throw) → Legal x u (to u)
        leads u = (fits.1 u).0

        branch : (u : Throw) → mean_in b (to u) ≤ total_over (suc b.further) (next u)
        branch u = (result_right u (to u) (leads u)).least.least (next u) (fits.1 u).1

        within : (u : Throw) → IsWithin b.further (next u)
        within u = fits_within b.further (to u) (next u) (ends u (to u) (leads u)) (fits.1 u).1

        each : (u : Throw) →
            mean_in b (otherwise_at v y (recorded_in b x) u) ≤ mean_in b (to u)
        each u = at_test (is_throw v u) refl
          where
            at_test : (t : Bool) → is_throw v u ≡ t →
                mean_in b (cond t y (recorded_in b x u)) ≤ mean_in b (to u)
            at_test true e = le_of_eq (ap (mean_in b) (sym begun ∙ ap to (same_throw v u e)))
            at_test false e =
                subst (λ m. m ≤ mean_in b (to u))
                (sym (ap b.means ((right x at low).played u).ranked))
                (recorded_least u (to u) (leads u))

        under : mean_in b y ≤ b.means (play_in b x v)
        under =
            let ours = total_over-turn_times_36 b.further to next within in
            let equal =
            least_in_agree (suc b.further) x (total_over (suc b.further) (turn to next))
            (mean_in b x) least (right x at low).least in
            let before = mean_before b right long x at low unfinished in
            let swapped = one_changed v (mean_in b) y (recorded_in b x) in
            let low_sum =
            sum_by-at_most (λ u. mean_in b (otherwise_at v y (recorded_in b x) u))
            (λ u. mean_in b (to u)) throws each in
            let high_sum =
            sum_by-at_most (λ u. mean_in b (to u)) (λ u. total_over (suc b.further) (next u))
            throws branch in
            let here = ap b.means ((right x at low).played v).ranked in
            omega (arith, ours, equal, before, swapped, low_sum, high_sum, here)

        at_most : (a b : ℕ) → a ≤ b → a - b ≡ 0
        at_most a b le = omega arith
