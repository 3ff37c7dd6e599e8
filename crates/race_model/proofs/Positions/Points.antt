-- What one checker fewer or more on a point does to a position.
use Rattle.std.proofs.Common.{◌≡◌, ◌⊎◌, inl, inr, ⊎_elim, ℕ, zero, suc, ◌+◌, ◌*◌, ◌<◌, List, []}
use Rattle.std.proofs.Common.{◌∷◌, length, get_or, set, sum, replicate, refl, ap, ◌∙◌, arith}
use Rattle.std.proofs.lemmas.List.{get_or_past}
use Rattle.std.proofs.lemmas.List.Sums.{sum_by-set}
use Rattle.race_model.specs.Prelude.{Board, IsFinished, IsHighest, pips_from, pips}
use Rattle.race_model.specs.Positions.{count}
use Rattle.race_model.proofs.Numbers.Sums.{sum-zeros, zeros_of_sum}

-- the sum after a write
pub sum-set : (x : List ℕ) (i v : ℕ) → i < length x → sum (set x i v) + get_or x i 0 ≡ sum x + v
sum-set x i v h = sum_by-set (λ c. c) x i v 0 h

-- the pips after a write
pub pips_from-set : (p : ℕ) (x : List ℕ) (i v : ℕ) → i < length x →
    pips_from p (set x i v) + (p + i) * get_or x i 0 ≡ pips_from p x + (p + i) * v
pips_from-set p [] i v h = absurd (omega arith)
pips_from-set p (c ∷ cs) zero v h = omega arith
pips_from-set p (c ∷ cs) (suc i) v h =
    let inner : i < length cs = omega arith in
    let rest = pips_from-set (suc p) cs i v inner in
    omega (arith, rest)

-- a point with a checker on it is a point of the board
pub on_board : (x : List ℕ) (i : ℕ) → 0 < get_or x i 0 → i < length x
on_board [] i h = absurd (omega arith)
on_board (c ∷ cs) zero h = omega arith
on_board (c ∷ cs) (suc i) h = let rest = on_board cs i h in omega (arith, rest)

-- above n and at n there is nothing, so there is nothing above n - 1
above_less : (x : Board) (n : ℕ) → count x (suc n) ≡ 0 → ((q : ℕ) → suc n < q → count x q ≡ 0) →
    (q : ℕ) → n < q → count x q ≡ 0
above_less x n e above q h = ⊎_elim (λ l. above q l) (λ s. ap (count x) s ∙ e) (apart n q h)
  where
    apart : (n q : ℕ) → n < q → (suc n < q) ⊎ (q ≡ suc n)
    apart n q h = grind arith

-- each point up to n is above all checkers, or one of them
-- is the highest point with a checker on it
highest_to : (x : Board) (n : ℕ) → ((q : ℕ) → n < q → count x q ≡ 0) →
    ((p : ℕ) × IsHighest x p) ⊎ ((q : ℕ) → count x q ≡ 0)
highest_to x zero above = inr (λ q. at q)
  where
    at : (q : ℕ) → count x q ≡ 0
    at zero = refl
    at (suc q) = above (suc q) (omega arith)
highest_to x (suc n) above = at (count x (suc n)) refl (highest_to x n)
  where
    at : (c : ℕ) → count x (suc n) ≡ c →
        (((q : ℕ) → n < q → count x q ≡ 0) →
        ((p : ℕ) × IsHighest x p) ⊎ ((q : ℕ) → count x q ≡ 0)) →
        ((p : ℕ) × IsHighest x p) ⊎ ((q : ℕ) → count x q ≡ 0)
    at zero e below = below (above_less x n e above)
    at (suc c) e below = inl (suc n, record { occupied = omega (arith, e); above = above })

-- an unfinished position has a highest point
pub highest : (x : Board) → ¬ IsFinished x → (p : ℕ) × IsHighest x p
highest x unfinished =
    ⊎_elim
    (λ found. found)
    (λ empty. absurd (unfinished (sum-zeros x (λ k. empty (suc k)))))
    (highest_to x (length x) (past x))
  where
    past : (x : Board) (q : ℕ) → length x < q → count x q ≡ 0
    past x zero h = refl
    past x (suc q) h = get_or_past x q 0 (omega arith)

-- the finished position has no pips
pub no_pips : (x : Board) → IsFinished x → pips x ≡ 0
no_pips x none = ap pips (zeros_of_sum x none) ∙ zeros 1 (length x)
  where
    zeros : (p n : ℕ) → pips_from p (replicate n 0) ≡ 0
    zeros p zero = refl
    zeros p (suc n) = omega (arith, zeros (suc p) n)
