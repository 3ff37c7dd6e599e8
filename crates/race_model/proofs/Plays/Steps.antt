-- What a step may do: there is one for every die, it takes
-- at least one pip, and it leads to a position.
use Rattle.std.proofs.Common.{◌≡◌, ◌⊎◌, inl, inr, ⊎_elim, ℕ, zero, suc, ◌+◌, ◌-◌, ◌*◌, ◌<◌, ◌≤◌}
use Rattle.std.proofs.Common.{length, get_or, set, refl, sym, subst, subst₂, ◌∙◌, arith}
use Rattle.std.proofs.lemmas.List.{length-set}
use Rattle.race_model.specs.Prelude.{Board, IsPosition, IsFinished, IsHighest, checkers, fewer, more, pips, pips_from}
use Rattle.race_model.specs.Prelude.{Die, number, Step, bear_off, move_down, from_highest}
use Rattle.race_model.specs.Positions.{count}
use Rattle.race_model.proofs.Positions.Points.{highest, sum-set, pips_from-set, on_board}
use Rattle.race_model.proofs.Dice.Faces.{number_positive}

-- two numbers in their order
order : (a b : ℕ) → (a < b) ⊎ ((a ≡ b) ⊎ (b < a))
order a b = grind arith

-- an unfinished position has a step for every die
pub playable : (x : Board) (d : Die) → ¬ IsFinished x → (y : Board) × Step x d y
playable x d unfinished = from (highest x unfinished)
  where
    from : (p : ℕ) × IsHighest x p → (y : Board) × Step x d y
    from (p, top) = ⊎_elim below (⊎_elim level above) (order (number d) p)
      where
        below : number d < p → (y : Board) × Step x d y
        below h = (more (fewer x p) (p - number d), (p, move_down h top.occupied refl))

        level : number d ≡ p → (y : Board) × Step x d y
        level e = (fewer x p, (p, bear_off (sym e) top.occupied refl))

        above : p < number d → (y : Board) × Step x d y
        above h = (fewer x p, (p, from_highest (λ q le. top.above q (omega arith)) top refl))

-- what a write that takes one away does to a weighted sum
pub less_one : (a b c g : ℕ) → 0 < g → a + c * g ≡ b + c * (g - 1) → a + c ≡ b
less_one a b c g h e = by (g - 1) (omega arith)
  where
    by : (m : ℕ) → g ≡ m + 1 → a + c ≡ b
    by m same =
        let here : a + c * (m + 1) ≡ b + c * m =
        subst₂ (λ u v. a + c * u ≡ b + c * v) same (omega arith) e in
        omega (arith, here)

-- what a write that adds one does to a weighted sum
pub one_more_of : (a b c g : ℕ) → a + c * g ≡ b + c * (g + 1) → a ≡ b + c
one_more_of a b c g e = omega arith

-- how a position changes: as many points, so many checkers and so many pips fewer
pub record Loses (x y : Board) (c p : ℕ) : Type 0 where
  pub same_length : length y ≡ length x
  pub checkers_lost : checkers y + c ≡ checkers x
  pub pips_lost : pips y + p ≡ pips x

-- one checker fewer on a point
pub one_fewer : (x : Board) (s : ℕ) → 0 < count x s → Loses x (fewer x s) 1 s
one_fewer x zero h = absurd (omega arith)
one_fewer x (suc i) h =
    let place = on_board x i h in
    let sums = sum-set x i (get_or x i 0 - 1) place in
    let places = pips_from-set 1 x i (get_or x i 0 - 1) place in
    let by_pips =
    less_one (pips_from 1 (set x i (get_or x i 0 - 1))) (pips_from 1 x) (1 + i) (get_or x i 0)
    h places in
    record {
      same_length = length-set x i (get_or x i 0 - 1);
      checkers_lost = omega (arith, sums);
      pips_lost = omega (arith, by_pips);
    }

-- one checker more on a point
pub one_more : (x : Board) (i : ℕ) → i < length x → Loses (more x (suc i)) x 1 (suc i)
one_more x i place =
    let sums = sum-set x i (get_or x i 0 + 1) place in
    let places = pips_from-set 1 x i (get_or x i 0 + 1) place in
    let by_pips =
    one_more_of (pips_from 1 (set x i (get_or x i 0 + 1))) (pips_from 1 x) (1 + i)
    (get_or x i 0) places in
    record {
      same_length = sym (length-set x i (get_or x i 0 + 1));
      checkers_lost = omega (arith, sums);
      pips_lost = omega (arith, by_pips);
    }

-- a point with a checker on it is one of the board's, from 1 on
pub occupied_place : (x : Board) (s : ℕ) → 0 < count x s → (0 < s) × (s ≤ length x)
occupied_place x zero h = absurd (omega arith)
occupied_place x (suc i) h = let place = on_board x i h in (omega arith, omega (arith, place))

-- one checker moved down
pub one_moved : (x : Board) (d s : ℕ) → 0 < d → d < s → 0 < count x s →
    Loses x (more (fewer x s) (s - d)) 0 d
one_moved x d s positive below occupied = at (s - d) (omega arith)
  where
    taken : Loses x (fewer x s) 1 s
    taken = one_fewer x s occupied

    at : (t : ℕ) → t + d ≡ s → Loses x (more (fewer x s) t) 0 d
    at zero e = absurd (omega arith)
    at (suc i) e =
        let inside = occupied_place x s occupied in
        let place : i < length (fewer x s) = omega (arith, taken.same_length, inside.1) in
        let put = one_more (fewer x s) i place in
        record {
          same_length = sym put.same_length ∙ taken.same_length;
          checkers_lost = omega (arith, put.checkers_lost, taken.checkers_lost);
          pips_lost = omega (arith, put.pips_lost, taken.pips_lost);
        }

-- a die either moves a checker down by its number, or bears one off from some point
pub data Change (x : Board) (d : ℕ) (y : Board) : Type 0 where
  moved : Loses x y 0 d → Change x d y
  borne_off : (s : ℕ) → 0 < s → (s ≡ d) ⊎ ((p : ℕ) → d ≤ p → count x p ≡ 0) →
      IsHighest x s ⊎ (s ≡ d) → Loses x y 1 s → Change x d y

-- what a step changes
pub changed : (x : Board) (d : Die) (y : Board) → Step x d y → Change x (number d) y
changed x d y (s, bear_off at occupied to) =
    borne_off s (occupied_place x s occupied).0 (inl at) (inr at)
    (subst (λ z. Loses x z 1 s) (sym to) (one_fewer x s occupied))
changed x d y (s, move_down below occupied to) =
    moved (subst (λ z. Loses x z 0 (number d)) (sym to)
    (one_moved x (number d) s (number_positive d) below occupied))
changed x d y (s, from_highest empty top to) =
    borne_off s (occupied_place x s top.occupied).0 (inr empty) (inl top)
    (subst (λ z. Loses x z 1 s) (sym to) (one_fewer x s top.occupied))

-- a step takes at least one pip
pub fewer_pips : (x : Board) (d : Die) (y : Board) → Step x d y → pips y < pips x
fewer_pips x d y s = by (changed x d y s)
  where
    by : Change x (number d) y → pips y < pips x
    by (moved l) = omega (arith, l.pips_lost, number_positive d)
    by (borne_off t positive _ _ l) = omega (arith, l.pips_lost, positive)

-- a step leads from a position to a position
pub to_position : (x : Board) (d : Die) (y : Board) → IsPosition x → Step x d y → IsPosition y
to_position x d y at s = by (changed x d y s)
  where
    by : Change x (number d) y → IsPosition y
    by (moved l) = record {
      six = l.same_length ∙ at.six;
      few = omega (arith, l.checkers_lost, at.few);
    }
    by (borne_off t positive _ _ l) = record {
      six = l.same_length ∙ at.six;
      few = omega (arith, l.checkers_lost, at.few);
    }
