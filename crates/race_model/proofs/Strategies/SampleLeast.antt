-- No strategy from one checker on point 6 has a smaller total than the sample: a throw takes at
-- most what it is worth, so after each of the 9 throws that are worth less than 6 pips a roll is
-- still needed.
use Rattle.std.proofs.Common.{◌≡◌, ◌⊎◌, ⊎_elim, ℕ, ◌+◌, ◌*◌, ◌≤◌, Bool, true, false, cond, leb}
use Rattle.std.proofs.Common.{List, [], ◌∷◌, sum_by, refl, ap, arith, eq-eqb, ne_eqb, leb-false}
use Rattle.std.proofs.Common.{zero-le, lit≤}
use Rattle.race_model.specs.Prelude.{Board, IsPosition, IsFinished, IsHighest, pips, Die, number, Throw, throws, Step}
use Rattle.race_model.specs.Prelude.{Run, Legal, in_order, in_reverse, double, whole, Strategy, stop, turn, Fits, total}
use Rattle.race_model.specs.Prelude.{IsLeast, IsWithin, worth, from_six_point}
use Rattle.race_model.specs.Positions.{count}
use Rattle.race_model.proofs.Plays.Steps.{Change, moved, borne_off, changed}
use Rattle.race_model.proofs.Numbers.Sums.{sum_by-at_most}
use Rattle.race_model.proofs.Dice.Faces.{numbers_apart}
use Rattle.race_model.proofs.Plays.Needs.{under}
use Rattle.race_model.proofs.Strategies.Totals.{total_over-turn_times_36}
use Rattle.race_model.proofs.Plays.SinglePlays.{sum_of_dice, single, unfinished, sample_fits}
use Rattle.race_model.proofs.Strategies.SampleCounts.{sample_mean}
use Rattle.race_model.proofs.Positions.Points.{no_pips}
use Rattle.race_model.proofs.Strategies.Histories.{total_over-turn, fits_within}
use Rattle.race_model.proofs.Strategies.Horizons.{ends_in_22}

-- a step takes at most the die's pips
step_takes : (x : Board) (d : Die) (y : Board) → Step x d y → pips x ≤ pips y + number d
step_takes x d y goes = by (changed x d y goes)
  where
    low : (s : ℕ) → (s ≡ number d) ⊎ ((p : ℕ) → number d ≤ p → count x p ≡ 0) →
        IsHighest x s ⊎ (s ≡ number d) → s ≤ number d
    low s at top = ⊎_elim
        (λ e. omega (arith, e))
        (λ empty. ⊎_elim (λ h. under x s (number d) empty h.occupied) (λ e. omega (arith, e)) top)
        at

    by : Change x (number d) y → pips x ≤ pips y + number d
    by (moved l) = omega (arith, l.pips_lost)
    by (borne_off s positive at top l) = let le = low s at top in omega (arith, l.pips_lost, le)

-- a run takes at most the pips of its dice
run_takes : (dice : List Die) (x y : Board) → Run x dice y → pips x ≤ pips y + sum_of_dice dice
run_takes [] x y same = omega (arith, ap pips same)
run_takes (d ∷ dice) x y run = ⊎_elim
    (λ still. omega (arith, ap pips still.1))
    (λ goes.
    let first = step_takes x d goes.1.0 goes.1.1.0 in
    let rest = run_takes dice goes.1.0 y goes.1.1.1 in omega (arith, first, rest))
    run

-- a throw takes at most what it is worth
legal_takes : (x : Board) (v : Throw) (y : Board) → Legal x v y → pips x ≤ pips y + worth v
legal_takes x v y (in_order apart run) =
    let taken = run_takes (v.first ∷ v.second ∷ []) x y run in
    let value =
    ap (λ b. cond b (4 * number v.first) (number v.first + number v.second))
    (ne_eqb (number v.first) (number v.second) (numbers_apart v.first v.second apart)) in
    omega (arith, taken, value)
legal_takes x v y (in_reverse apart run) =
    let taken = run_takes (v.second ∷ v.first ∷ []) x y run in
    let value =
    ap (λ b. cond b (4 * number v.first) (number v.first + number v.second))
    (ne_eqb (number v.first) (number v.second) (numbers_apart v.first v.second apart)) in
    omega (arith, taken, value)
legal_takes x v y (double same run) =
    let taken = run_takes (v.first ∷ v.first ∷ v.first ∷ v.first ∷ []) x y run in
    let value =
    ap (λ b. cond b (4 * number v.first) (number v.first + number v.second))
    (eq-eqb (number v.first) (number v.second) (ap number same)) in
    omega (arith, taken, value)

-- a strategy from an unfinished position needs a roll in each sequence
roll_needed : (s : Strategy) (x : Board) → Fits s x → ¬ IsFinished x → whole ≤ total s
unfolding whole
roll_needed stop x fits unfinished = absurd (unfinished fits)
roll_needed (turn to next) x fits unfinished =
    let rolls = total_over-turn 21 to next in omega (arith, rolls)

-- one checker on point 6 is an unfinished position
six_is_position : IsPosition (single 6)
six_is_position = record { six = refl; few = omega arith }

-- 9 of the 36 throws are worth less than 6 pips
nine_throws : (n : ℕ) → sum_by (λ v. cond (leb 6 (worth v)) 0 n) throws ≡ 9 * n
unfolding throws
nine_throws n = omega arith

-- no strategy has a smaller total than the sample
no_less : (s : Strategy) → Fits s (single 6) → total from_six_point ≤ total s
unfolding whole
no_less stop none = absurd (unfinished 6 (omega arith) (omega arith) none)
no_less (turn to next) fits =
    let rolls = total_over-turn_times_36 21 to next within in
    let needed =
    sum_by-at_most (λ v. cond (leb 6 (worth v)) 0 whole) (λ v. total (next v)) throws branch in
    omega (arith, rolls, needed, nine_throws whole, sample_mean)
  where
    within : (v : Throw) → IsWithin 21 (next v)
    within v =
        fits_within 21 (to v) (next v)
        (ends_in_22 (single 6) six_is_position (lit≤ tt) fits.0 v (to v) (fits.1 v).0)
        (fits.1 v).1

    branch : (v : Throw) → cond (leb 6 (worth v)) 0 whole ≤ total (next v)
    branch v = by (leb 6 (worth v)) refl
      where
        left : leb 6 (worth v) ≡ false → ¬ IsFinished (to v)
        left e none =
            let low = leb-false 6 (worth v) e in
            let taken = legal_takes (single 6) v (to v) (fits.1 v).0 in
            let empty = no_pips (to v) none in
            omega (arith, low, taken, empty)

        by : (b : Bool) → leb 6 (worth v) ≡ b → cond b 0 whole ≤ total (next v)
        by true e = zero-le
        by false e = roll_needed (next v) (to v) (fits.1 v).1 (left e)

-- so the total of the sample is the least
pub sample_least : IsLeast (single 6) (total from_six_point)
sample_least = record { reached = (from_six_point, sample_fits, refl); least = no_less }
