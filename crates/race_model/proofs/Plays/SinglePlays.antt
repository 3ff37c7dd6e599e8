-- One checker: a throw takes it down by what the throw is worth, or off the board.
use Rattle.std.proofs.Common.{◌≡◌, ◌≢◌, ◌⊎◌, inl, inr, ⊎_elim, ℕ, zero, suc, ◌+◌, ◌-◌, ◌*◌, ◌<◌}
use Rattle.std.proofs.Common.{◌≤◌, Bool, true, false, cond, leb, List, [], ◌∷◌, get_or, refl, ap}
use Rattle.std.proofs.Common.{sym, subst, ◌∙◌, arith, eq-eqb, ne_eqb, leb-true, leb-false, lit≤}
use Rattle.std.proofs.lemmas.List.{get_or-set_same, get_or-set_other}
use Rattle.race_model.specs.Prelude.{Board, IsFinished, IsHighest, fewer, more, finished, Die, one, two, three, four}
use Rattle.race_model.specs.Prelude.{five, six, number, Throw, Step, bear_off, move_down, from_highest, Run, Legal}
use Rattle.race_model.specs.Prelude.{in_order, double, stop, turn, Fits, worth, from_six_point}
use Rattle.race_model.specs.Positions.{count}
use Rattle.race_model.proofs.Dice.Faces.{same_die, numbers_apart}
use Rattle.race_model.proofs.Plays.MostPlays.{get_or-zeros, empty_at}

-- one checker on a point, and none where there is no such point
abbrev pub single : ℕ → Board
single p = more finished p

-- the other points are empty
count-single : (p q : ℕ) → q ≢ p → count (single p) q ≡ 0
count-single p zero apart = refl
count-single zero (suc j) apart = get_or-zeros 6 j
count-single (suc i) (suc j) apart =
    get_or-set_other finished i j (get_or finished i 0 + 1) 0 (λ e. apart (ap suc e))
    ∙ get_or-zeros 6 j

-- its point is occupied
occupied : (p : ℕ) → 0 < p → p ≤ 6 → 0 < count (single p) p
occupied zero positive le = absurd (omega arith)
occupied (suc i) positive le =
    let one = get_or-set_same finished i (get_or finished i 0 + 1) 0 (omega arith) in
    omega (arith, one)

-- without it the board is empty
fewer-single : (p : ℕ) → p ≤ 6 → fewer (single p) p ≡ finished
fewer-single zero le = refl
fewer-single (suc zero) le = refl
fewer-single (suc (suc zero)) le = refl
fewer-single (suc (suc (suc zero))) le = refl
fewer-single (suc (suc (suc (suc zero)))) le = refl
fewer-single (suc (suc (suc (suc (suc zero))))) le = refl
fewer-single (suc (suc (suc (suc (suc (suc zero)))))) le = refl
fewer-single (suc (suc (suc (suc (suc (suc (suc p))))))) le = absurd (omega arith)

-- its point is the highest
highest : (p : ℕ) → 0 < p → p ≤ 6 → IsHighest (single p) p
highest p positive le = record {
  occupied = occupied p positive le;
  above = λ q over. count-single p q (λ e. apart q over e);
}
  where
    apart : (q : ℕ) → p < q → q ≡ p → ⊥
    apart q over e = omega arith

-- it is there
pub unfinished : (p : ℕ) → 0 < p → p ≤ 6 → ¬ IsFinished (single p)
unfinished p positive le none =
    let here = occupied p positive le in
    let empty = empty_at (single p) p none in absurd (omega (arith, here, empty))

-- a die takes it down, or off
step_single : (d : Die) (p : ℕ) → 0 < p → p ≤ 6 → Step (single p) d (single (p - number d))
step_single d p positive le = ⊎_elim
    (λ below. (
      p,
      move_down below (occupied p positive le)
          (sym (ap (λ x. more x (p - number d)) (fewer-single p le))),
    ))
    (λ rest. ⊎_elim
    (λ at. (p, bear_off (sym at) (occupied p positive le) (off (omega arith))))
    (λ above. (
      p,
      from_highest (λ q over. count-single p q (λ e. apart q above over e))
          (highest p positive le) (off (omega arith)),
    ))
    rest)
    (compare (number d) p)
  where
    compare : (m n : ℕ) → (m < n) ⊎ ((m ≡ n) ⊎ (n < m))
    compare m n = grind arith

    off : p - number d ≡ 0 → single (p - number d) ≡ fewer (single p) p
    off e = ap single e ∙ sym (fewer-single p le)

    apart : (q : ℕ) → p < number d → number d ≤ q → q ≡ p → ⊥
    apart q above over e = omega arith

-- the numbers of some dice
abbrev pub sum_of_dice : List Die → ℕ
sum_of_dice [] = 0
sum_of_dice (d ∷ dice) = number d + sum_of_dice dice

-- a run takes it down by all of them
run_single : (dice : List Die) (p : ℕ) → p ≤ 6 →
    Run (single p) dice (single (p - sum_of_dice dice))
run_single [] p le = ap single (less p)
  where
    less : (p : ℕ) → p - 0 ≡ p
    less p = omega arith
run_single (d ∷ dice) zero le = inl (refl, ap single (none (number d + sum_of_dice dice)))
  where
    none : (n : ℕ) → 0 - n ≡ 0
    none n = omega arith
run_single (d ∷ dice) (suc p) le =
    inr (
      unfinished (suc p) (omega arith) le,
      (
        single (suc p - number d),
        (
          step_single d (suc p) (omega arith) le,
          subst (λ q. Run (single (suc p - number d)) dice (single q))
              (both (suc p) (number d) (sum_of_dice dice))
              (run_single dice (suc p - number d) (omega arith)),
        ),
      ),
    )
  where
    both : (p m n : ℕ) → p - m - n ≡ p - (m + n)
    both p m n = omega arith

-- a throw takes it down by what it is worth
legal_single : (v : Throw) (p : ℕ) → p ≤ 6 → Legal (single p) v (single (p - worth v))
legal_single v p le = ⊎_elim
    (λ same.
    double same
    (subst (λ q. Run (single p) (v.first ∷ v.first ∷ v.first ∷ v.first ∷ []) (single q))
    (of_double same) (run_single (v.first ∷ v.first ∷ v.first ∷ v.first ∷ []) p le)))
    (λ apart.
    in_order apart
    (subst (λ q. Run (single p) (v.first ∷ v.second ∷ []) (single q)) (of_two apart)
    (run_single (v.first ∷ v.second ∷ []) p le)))
    (same_die v.first v.second)
  where
    fourfold : (p n w : ℕ) → w ≡ 4 * n → p - (n + (n + (n + (n + 0)))) ≡ p - w
    fourfold p n w e = omega arith

    of_double : v.first ≡ v.second →
        p - sum_of_dice (v.first ∷ v.first ∷ v.first ∷ v.first ∷ []) ≡ p - worth v
    of_double same =
        fourfold p (number v.first) (worth v)
        (ap (λ b. cond b (4 * number v.first) (number v.first + number v.second))
        (eq-eqb (number v.first) (number v.second) (ap number same)))

    twofold : (p m n w : ℕ) → w ≡ m + n → p - (m + (n + 0)) ≡ p - w
    twofold p m n w e = omega arith

    of_two : v.first ≢ v.second → p - sum_of_dice (v.first ∷ v.second ∷ []) ≡ p - worth v
    of_two apart =
        twofold p (number v.first) (number v.second) (worth v)
        (ap (λ b. cond b (4 * number v.first) (number v.first + number v.second))
        (ne_eqb (number v.first) (number v.second) (numbers_apart v.first v.second apart)))

-- each throw is worth 3 pips or more
worth_three : (a b : Die) → 3 ≤ worth (record { first = a; second = b })
worth_three one one = lit≤ tt
worth_three one two = lit≤ tt
worth_three one three = lit≤ tt
worth_three one four = lit≤ tt
worth_three one five = lit≤ tt
worth_three one six = lit≤ tt
worth_three two one = lit≤ tt
worth_three two two = lit≤ tt
worth_three two three = lit≤ tt
worth_three two four = lit≤ tt
worth_three two five = lit≤ tt
worth_three two six = lit≤ tt
worth_three three one = lit≤ tt
worth_three three two = lit≤ tt
worth_three three three = lit≤ tt
worth_three three four = lit≤ tt
worth_three three five = lit≤ tt
worth_three three six = lit≤ tt
worth_three four one = lit≤ tt
worth_three four two = lit≤ tt
worth_three four three = lit≤ tt
worth_three four four = lit≤ tt
worth_three four five = lit≤ tt
worth_three four six = lit≤ tt
worth_three five one = lit≤ tt
worth_three five two = lit≤ tt
worth_three five three = lit≤ tt
worth_three five four = lit≤ tt
worth_three five five = lit≤ tt
worth_three five six = lit≤ tt
worth_three six one = lit≤ tt
worth_three six two = lit≤ tt
worth_three six three = lit≤ tt
worth_three six four = lit≤ tt
worth_three six five = lit≤ tt
worth_three six six = lit≤ tt

-- so it bears off a checker from point 3 or a lower one
off_at_once : (v : Throw) (p : ℕ) → p ≤ 3 → Legal (single p) v finished
off_at_once v p le =
    let enough = worth_three v.first v.second in
    let none : p - worth v ≡ 0 = omega (arith, enough) in
    subst (λ q. Legal (single p) v (single q)) none (legal_single v p (omega arith))

-- the sample can be played from one checker on point 6
pub sample_fits : Fits from_six_point (single 6)
unfolding from_six_point
sample_fits = (
  unfinished 6 (omega arith) (omega arith),
  λ v. (legal_single v 6 (omega arith), next v (leb 6 (worth v)) refl),
)
  where
    next : (v : Throw) (b : Bool) → leb 6 (worth v) ≡ b →
        Fits (cond b stop (turn (λ _. finished) (λ _. stop))) (single (6 - worth v))
    next v true e =
        let enough = leb-true 6 (worth v) e in
        let none : 6 - worth v ≡ 0 = omega (arith, enough) in
        subst (λ q. IsFinished (single q)) (sym none) refl
    next v false e =
        let enough = worth_three v.first v.second in
        let low = leb-false 6 (worth v) e in (
          unfinished (6 - worth v) (omega (arith, low)) (omega arith),
          λ w. (off_at_once w (6 - worth v) (omega (arith, enough)), refl),
        )
