-- A record of either version tells all shares of a position that is recorded right.
use Rattle.std.proofs.Common.{◌≡◌, ℕ, zero, suc, ◌≤◌, Bool, true, false, cond, eqb, leb, List}
use Rattle.std.proofs.Common.{refl, ap, sym, ◌∙◌, arith, eq-eqb, ne_eqb, leb-false}
use Rattle.race_model.specs.Prelude.{Board, IsPosition, IsFinished, checkers, pips, Version, full, compact, spread}
use Rattle.race_model.specs.Prelude.{whole, Strategy, stop, turn, Fits, count_of, follow, IsRightAt, most_rolls}
use Rattle.race_model.specs.Prelude.{told_share}
use Rattle.race_model.proofs.Strategies.Horizons.{sum-at_most_pips, count_of-beyond}
use Rattle.race_model.proofs.Strategies.Histories.{count_over-turn_none}
use Rattle.race_model.proofs.Strategies.Totals.{count_over-stop}
use Rattle.race_model.proofs.Positions.Points.{no_pips}

-- an unfinished position has pips
pub some_pips : (x : Board) → ¬ IsFinished x → pips x ≡ 0 → ⊥
some_pips x unfinished none = unfinished (empty (checkers x) (pips x) (sum-at_most_pips 0 x) none)
  where
    empty : (c p : ℕ) → c ≤ p → p ≡ 0 → c ≡ 0
    empty c p le e = omega arith

-- no roll is needed where there are no pips, and nowhere else
count_of-none : (x : Board) (s : Strategy) → Fits s x →
    count_of s 0 ≡ cond (eqb (pips x) 0) whole 0
unfolding whole
count_of-none x stop none =
    count_over-stop 22 ∙ sym (ap (λ b. cond b whole 0) (eq-eqb (pips x) 0 (no_pips x none)))
count_of-none x (turn to next) fits =
    count_over-turn_none 21 to next
    ∙ sym (ap (λ b. cond b whole 0) (ne_eqb (pips x) 0 (some_pips x fits.0)))

-- each share is told
pub told : (version : Version) (f : List ℕ) (x : Board) (k : ℕ) → IsPosition x →
    IsRightAt f x → k ≤ 22 → spread f x k ≡ told_share version (pips x) (spread f x) k
told full f x k at right le = refl
told compact f x zero at right le =
    right.spread_is 0 le ∙ count_of-none x (follow f 22 x) right.fits
told compact f x (suc k) at right le = by (leb (suc k) (most_rolls (pips x))) refl
  where
    by : (b : Bool) → leb (suc k) (most_rolls (pips x)) ≡ b →
        spread f x (suc k) ≡ cond b (spread f x (suc k)) 0
    by true e = refl
    by false e =
        right.spread_is (suc k) le
        ∙ count_of-beyond x (follow f 22 x) (suc k) at right.fits
        (leb-false (suc k) (most_rolls (pips x)) e)
