-- A right book meets the local equations: its strategy is the same with one turn
-- more, and the strategy that plays otherwise at one throw has no lower total.
use Rattle.std.proofs.Common.{◌≡◌, ⊎_elim, ℕ, zero, suc, ◌+◌, ◌*◌, ◌^◌, ◌≤◌, sum_by, eq-eqb, ap₂}
use Rattle.std.proofs.Common.{Bool, true, false, ◌&&◌, cond, refl, ap, sym, subst, ◌∙◌, arith}
use Rattle.std.proofs.Common.{le_trans, le_of_lt, le_of_eq}
use mathlib.Core.Path.{fun_ext}
use Rattle.race_model.specs.Prelude.{Board, IsPosition, IsFinished, pips, Die, one, two, three, four, five, six, number}
use Rattle.race_model.specs.Prelude.{Throw, throws, Legal, Strategy, stop, turn, Fits, IsWithin, total_over, count_over}
use Rattle.race_model.specs.Prelude.{Book, mean_in, recorded_in, share_in, follow_in, IsRightIn, IsRightBook, IsBestIn}
use Rattle.race_model.specs.Prelude.{HasShareIn, IsLocalBook, IsLong}
use Rattle.race_model.proofs.Plays.Results.{legal_position, legal_pips, legal_finished, finished_or_not}
use Rattle.race_model.proofs.Strategies.Histories.{fits_within, count_over-turn_none}
use Rattle.race_model.proofs.Dice.Faces.{is_throw, same_throw}
use Rattle.race_model.proofs.Strategies.Totals.{total_over-stop, count_over-stop, count_over-stop_more}
use Rattle.race_model.proofs.Books.FromLocal.{follow_in-finished, follow_in-unfinished, Reaches}
use Rattle.race_model.proofs.Books.FromLocal.{turn_total, turn_count, mean_sum, share_sum}

-- the plays of a strategy, but for one throw
abbrev pub otherwise_at : Throw → Board → (Throw → Board) → Throw → Board
otherwise_at v z to u = cond (is_throw v u) z (to u)

-- at the one throw that was changed the play is the other one
pub otherwise_at-here : (v : Throw) (z : Board) (to : Throw → Board) → otherwise_at v z to v ≡ z
otherwise_at-here v z to =
    ap₂ (λ b c. cond (b && c) z (to v)) (eq-eqb (number v.first) (number v.first) refl)
    (eq-eqb (number v.second) (number v.second) refl)

-- a sum over the throws in which one place is another
one_changed_at : (a b : Die) (g : Board → ℕ) (z : Board) (to : Throw → Board) →
    sum_by (λ u. g (otherwise_at (record { first = a; second = b }) z to u)) throws
    + g (to (record { first = a; second = b })) ≡ sum_by (λ u. g (to u)) throws + g z
unfolding throws
one_changed_at one one g z to = omega arith
one_changed_at one two g z to = omega arith
one_changed_at one three g z to = omega arith
one_changed_at one four g z to = omega arith
one_changed_at one five g z to = omega arith
one_changed_at one six g z to = omega arith
one_changed_at two one g z to = omega arith
one_changed_at two two g z to = omega arith
one_changed_at two three g z to = omega arith
one_changed_at two four g z to = omega arith
one_changed_at two five g z to = omega arith
one_changed_at two six g z to = omega arith
one_changed_at three one g z to = omega arith
one_changed_at three two g z to = omega arith
one_changed_at three three g z to = omega arith
one_changed_at three four g z to = omega arith
one_changed_at three five g z to = omega arith
one_changed_at three six g z to = omega arith
one_changed_at four one g z to = omega arith
one_changed_at four two g z to = omega arith
one_changed_at four three g z to = omega arith
one_changed_at four four g z to = omega arith
one_changed_at four five g z to = omega arith
one_changed_at four six g z to = omega arith
one_changed_at five one g z to = omega arith
one_changed_at five two g z to = omega arith
one_changed_at five three g z to = omega arith
one_changed_at five four g z to = omega arith
one_changed_at five five g z to = omega arith
one_changed_at five six g z to = omega arith
one_changed_at six one g z to = omega arith
one_changed_at six two g z to = omega arith
one_changed_at six three g z to = omega arith
one_changed_at six four g z to = omega arith
one_changed_at six five g z to = omega arith
one_changed_at six six g z to = omega arith

-- a sum over the throws in which the place of any one throw is another
pub one_changed : (v : Throw) (g : Board → ℕ) (z : Board) (to : Throw → Board) →
    sum_by (λ u. g (otherwise_at v z to u)) throws + g (to v) ≡ sum_by (λ u. g (to u)) throws + g z
one_changed v g z to = one_changed_at v.first v.second g z to

-- a strategy that plays what a book says, and fits, is the same with one turn more
pub follow_in-more : (f : Book) (n : ℕ) (x : Board) → Fits (follow_in f n x) x →
    follow_in f (suc n) x ≡ follow_in f n x
unfolding follow_in
follow_in-more f zero x fits =
    follow_in-finished f 1 x fits ∙ sym (follow_in-finished f 0 x fits)
follow_in-more f (suc n) x fits = ⊎_elim
    (λ none.
    follow_in-finished f (suc (suc n)) x none ∙ sym (follow_in-finished f (suc n) x none))
    (λ unfinished.
    follow_in-unfinished f (suc n) x unfinished
    ∙ ap (turn (recorded_in f x))
    (fun_ext (λ v.
    follow_in-more f n (recorded_in f x v)
    ((subst (λ s. Fits s x) (follow_in-unfinished f n x unfinished) fits).1 v).1))
    ∙ sym (follow_in-unfinished f n x unfinished))
    (finished_or_not x)

-- the plan: some plays, and then what a book says
unfoldable pub plan : Book → (Throw → Board) → Strategy
plan f to = turn to (λ v. follow_in f (suc f.further) (to v))

-- what the book says is right, and no game is longer than its sequences; a position of at most its
-- bound
module _ (f : Book) (right : IsRightBook f) (long : IsLong f) (x : Board) (at : IsPosition x)
    (low : pips x ≤ f.bound) where
  -- what is said for a throw is legal
  goes : (v : Throw) → Legal x v (recorded_in f x v)
  goes v = ((right x at low).played v).legal

  -- an unfinished position
  module _ (unfinished : ¬ IsFinished x) where
    -- what is played from where a throw leads has what is said
    reached : (v : Throw) (y : Board) → Legal x v y →
        Reaches f (follow_in f (suc f.further) y) y
    reached v y leads = record {
      fits = there.fits;
      total_is = there.mean_is;
      counts = there.spread_is;
    } where
      there : IsRightIn f y
      there =
          right y (legal_position x v y at leads) (le_trans (legal_pips x v y leads) low)

    -- what is played from where a throw leads is over a roll sooner
    within : (v : Throw) (y : Board) → Legal x v y →
        IsWithin f.further (follow_in f (suc f.further) y)
    within v y leads =
        fits_within f.further y (follow_in f (suc f.further) y)
        (long x at low unfinished v y leads) (reached v y leads).fits

    -- a plan of plays that are legal
    module _ (to : Throw → Board) (legal : (v : Throw) → Legal x v (to v)) where
      -- it can be played
      pub plan_fits : Fits (plan f to) x
      unfolding plan
      plan_fits = (unfinished, λ v. (legal v, (reached v (to v) (legal v)).fits))

      -- its total, by the means
      pub plan_total : 36 * total_over (suc f.further) (plan f to)
          ≡ 36 * 36 ^ suc f.further + sum_by (λ v. mean_in f (to v)) throws
      unfolding plan
      plan_total =
          turn_total f to (λ v. follow_in f (suc f.further) (to v))
          (λ v. within v (to v) (legal v)) (λ v. reached v (to v) (legal v))

      -- its counts, by the shares
      plan_count : (k : ℕ) → k ≤ suc f.further →
          36 * count_over (suc f.further) (plan f to) (suc k)
          ≡ sum_by (λ v. share_in f (to v) k) throws
      unfolding plan
      plan_count =
          turn_count f to (λ v. follow_in f (suc f.further) (to v))
          (λ v. within v (to v) (legal v)) (λ v. reached v (to v) (legal v))

    -- the strategy that plays what is said is the plan to do so
    follow_is_plan : follow_in f (suc f.further) x ≡ plan f (recorded_in f x)
    unfolding plan
    follow_is_plan =
        let turned = follow_in-unfinished f f.further x unfinished in
        turned ∙ ap (turn (recorded_in f x))
        (fun_ext (λ v.
        sym (follow_in-more f f.further (recorded_in f x v)
        ((subst (λ s. Fits s x) turned (right x at low).fits).1 v).1)))

    -- the mean is a roll, and the means of where it plays
    pub mean_before : 36 * mean_in f x
        ≡ 36 * 36 ^ suc f.further + sum_by (λ v. mean_in f (recorded_in f x v)) throws
    mean_before =
        ap (λ t. 36 * t)
        (sym (right x at low).mean_is ∙ ap (total_over (suc f.further)) follow_is_plan)
        ∙ plan_total (recorded_in f x) goes

    -- to play otherwise at one throw is legal
    pub otherwise_legal : (v : Throw) (z : Board) → Legal x v z → (u : Throw) →
        Legal x u (otherwise_at v z (recorded_in f x) u)
    otherwise_legal v z leads u = at_test (is_throw v u) refl
      where
        at_test : (b : Bool) → is_throw v u ≡ b → Legal x u (cond b z (recorded_in f x u))
        at_test true e = subst (λ w. Legal x w z) (same_throw v u e) leads
        at_test false e = goes u

    -- the plan that plays to z at one throw has no lower total
    best_before : (v : Throw) (z : Board) → Legal x v z →
        mean_in f (recorded_in f x v) ≤ mean_in f z
    best_before v z leads =
        let to = otherwise_at v z (recorded_in f x) in
        let legal = otherwise_legal v z leads in
        let least = (right x at low).least.least (plan f to) (plan_fits to legal) in
        let swapped = one_changed v (mean_in f) z (recorded_in f x) in
        omega (arith, least, plan_total to legal, swapped, mean_before)

  -- the least equation
  pub best_at : (v : Throw) → IsBestIn f x v
  best_at v z leads =
      subst (λ m. m ≤ mean_in f z) (ap f.means ((right x at low).played v).ranked)
      (⊎_elim (λ none.
      le_of_eq (ap (mean_in f)
      (legal_finished x v (recorded_in f x v) none (goes v)
      ∙ sym (legal_finished x v z none leads))))
      (λ unfinished. best_before unfinished v z leads) (finished_or_not x))

-- such a book meets the local equations
pub local_of_right : (f : Book) → IsLong f → IsRightBook f → IsLocalBook f
local_of_right f long right x at low = record {
  means = record {
    played = λ v _. here.played v;
    best = λ v _. best_at f right long x at low v;
    mean_is = record {
      at_end =
          λ none. sym here.mean_is
          ∙ ap (total_over (suc f.further)) (follow_in-finished f (suc f.further) x none)
          ∙ total_over-stop (suc f.further);
      before =
          λ unfinished. mean_before f right long x at low unfinished
          ∙ ap (λ s. 36 * 36 ^ suc f.further + s) (mean_sum f x here.played);
    };
  };
  shares = share;
} where
  here : IsRightIn f x
  here = right x at low

  -- its shares are the counts of whatever the strategy that plays what is said is equal to
  counts : (s : Strategy) (k : ℕ) → k ≤ suc f.further → follow_in f (suc f.further) x ≡ s →
      share_in f x k ≡ count_over (suc f.further) s k
  counts s k le same = here.spread_is k le ∙ ap (λ t. count_over (suc f.further) t k) same

  share : (k : ℕ) → k ≤ suc f.further → HasShareIn f x k
  share zero le = (
    λ none. counts stop 0 le (follow_in-finished f (suc f.further) x none)
        ∙ count_over-stop (suc f.further),
    λ unfinished. counts _ 0 le (follow_in-unfinished f f.further x unfinished)
        ∙ count_over-turn_none f.further _ _,
  )
  share (suc k) le = (
    λ none. counts stop (suc k) le (follow_in-finished f (suc f.further) x none)
        ∙ count_over-stop_more (suc f.further) k,
    λ unfinished.
        ap (λ t. 36 * t) (counts _ (suc k) le (follow_is_plan f right long x at low unfinished))
        ∙ plan_count f right long x at low unfinished (recorded_in f x)
        (goes f right long x at low) k (le_of_lt le)
        ∙ share_sum f x here.played k,
  )
