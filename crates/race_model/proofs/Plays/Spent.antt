-- How many pips a throw takes at most: a die takes no more
-- than it shows, so a double takes at most 24.
use Rattle.std.proofs.Common.{◌≡◌, ◌⊎◌, ⊎_elim, ℕ, ◌+◌, ◌*◌, ◌<◌, ◌≤◌, List, [], ◌∷◌, length, arith, ap}
use Rattle.race_model.specs.Prelude.{Board, IsHighest, pips, Die, one, two, three, four, five, six, number, Throw, Step}
use Rattle.race_model.specs.Prelude.{Run, Legal, in_order, in_reverse, double}
use Rattle.race_model.specs.Positions.{count}
use Rattle.race_model.proofs.Plays.Steps.{Change, moved, borne_off, changed}

-- a die shows at most 6
pub number_most : (d : Die) → number d ≤ 6
number_most one = omega arith
number_most two = omega arith
number_most three = omega arith
number_most four = omega arith
number_most five = omega arith
number_most six = omega arith

-- a step takes at most 6 pips
pub step_takes : (x : Board) (d : Die) (y : Board) → Step x d y → pips x ≤ pips y + 6
step_takes x d y s = by (changed x d y s)
  where
    at_or_below : (a b : ℕ) → (a ≤ b) ⊎ (b < a)
    at_or_below a b = grind arith

    -- a highest point with a checker on it is below the first point from which on all are empty
    low : (t : ℕ) → ((p : ℕ) → number d ≤ p → count x p ≡ 0) → IsHighest x t → t ≤ 6
    low t empty top = ⊎_elim
        (λ above. let none = empty t above in omega (arith, top.occupied, none))
        (λ below. omega (arith, number_most d))
        (at_or_below (number d) t)

    by : Change x (number d) y → pips x ≤ pips y + 6
    by (moved l) = omega (arith, l.pips_lost, number_most d)
    by (borne_off t positive why top l) =
        let few : t ≤ 6 = ⊎_elim
        (λ e. omega (arith, number_most d))
        (λ empty. ⊎_elim (λ is. low t empty is) (λ e. omega (arith, number_most d)) top)
        why in
        omega (arith, l.pips_lost)

-- dice take at most 6 pips each
pub run_takes : (dice : List Die) (x y : Board) → Run x dice y → pips x ≤ pips y + 6 * length dice
run_takes [] x y same = omega (arith, ap pips same)
run_takes (d ∷ dice) x y run = ⊎_elim
    (λ stays. omega (arith, ap pips stays.1))
    (λ goes.
    let first = step_takes x d goes.1.0 goes.1.1.0 in
    let rest = run_takes dice goes.1.0 y goes.1.1.1 in
    omega arith)
    run

-- a throw takes at most 24 pips
pub legal_takes : (x : Board) (v : Throw) (y : Board) → Legal x v y → pips x ≤ pips y + 24
legal_takes x v y (in_order apart run) = omega (arith, run_takes (v.first ∷ v.second ∷ []) x y run)
legal_takes x v y (in_reverse apart run) =
    omega (arith, run_takes (v.second ∷ v.first ∷ []) x y run)
legal_takes x v y (double same run) =
    omega (arith, run_takes (v.first ∷ v.first ∷ v.first ∷ v.first ∷ []) x y run)
