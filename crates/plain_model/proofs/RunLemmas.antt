-- The list of all runs, point by point.
use Rattle.std.proofs.Common.{◌≡◌, ℕ, zero, suc, ◌+◌, ◌-◌, ◌<◌, ◌≤◌, List, [], ◌∷◌, ◌++◌, length, take, take_all, drop}
use Rattle.std.proofs.Common.{get_or, flat_map, cond, refl, ap, sym, ◌∙◌, append_assoc, add-one, eq-eqb, ne_eqb, arith}
use Rattle.std.proofs.Common.{sum}
use Rattle.std.proofs.lemmas.Grind.{flat_map-append}
use Rattle.std.proofs.lemmas.List.{append-nil}
use Rattle.std.specs.List.{range_with_len}
use Rattle.std.proofs.lemmas.List.Sums.{sum_by-cons}
use Rattle.race_model.specs.Prelude.{Board, checkers, Die, number, step_from, all_runs, all_steps}
use Rattle.race_model.specs.Positions.{count}

-- no part of a list from a place on has a greater sum than the whole
pub sum-drop : (n : ℕ) (x : List ℕ) → sum (drop n x) ≤ sum x
sum-drop zero x = omega arith
sum-drop (suc n) [] = omega arith
sum-drop (suc n) (c ∷ cs) = omega (arith, sum_by-cons (λ k. k) c cs, sum-drop n cs)

-- what the rest of the dice make of the steps from n points, from point a on
unfoldable pub from_points : List Die → Board → ℕ → ℕ → ℕ → List Board
from_points rest x d a n = flat_map (all_runs rest) (flat_map (step_from x d) (range_with_len a n))

-- a range by its last number
range_with_len-last : (a n : ℕ) → range_with_len a (suc n) ≡ range_with_len a n ++ (a + n) ∷ []
range_with_len-last a zero = ap (λ k. k ∷ []) (add_zero a)
  where
    add_zero : (m : ℕ) → m ≡ m + 0
    add_zero m = omega arith
range_with_len-last a (suc n) =
    ap (λ l. a ∷ l)
    (range_with_len-last (a + 1) n
    ∙ ap (λ k. range_with_len (a + 1) n ++ k ∷ []) (regroup a n))
  where
    regroup : (a n : ℕ) → a + 1 + n ≡ a + suc n
    regroup a n = omega arith

-- no points
pub from_points-none : (rest : List Die) (x : Board) (d : ℕ) → from_points rest x d 1 0 ≡ []
unfolding from_points
from_points-none rest x d = refl

-- one point more
pub from_points-last : (rest : List Die) (x : Board) (d n : ℕ) →
    from_points rest x d 1 (suc n)
    ≡ from_points rest x d 1 n ++ flat_map (all_runs rest) (step_from x d (suc n))
unfolding from_points
from_points-last rest x d n =
    ap (λ l. flat_map (all_runs rest) (flat_map (step_from x d) l)) (range_with_len-last 1 n)
    ∙ ap (flat_map (all_runs rest))
    (flat_map-append (step_from x d) (range_with_len 1 n) ((1 + n) ∷ [])
    ∙ ap (λ l. flat_map (step_from x d) (range_with_len 1 n) ++ l)
    (append-nil (step_from x d (1 + n)) ∙ ap (step_from x d) (one_add n)))
    ∙ flat_map-append (all_runs rest) (flat_map (step_from x d) (range_with_len 1 n))
    (step_from x d (suc n))
  where
    one_add : (m : ℕ) → 1 + m ≡ suc m
    one_add m = omega arith

-- no dice lead nowhere
pub all_runs-none : (dice : List Die) (x : Board) → length dice ≡ 0 → all_runs dice x ≡ x ∷ []
all_runs-none [] x h = refl
all_runs-none (d ∷ dice) x h = absurd (omega arith)

-- no dice lead from the finished position
pub all_runs-finished : (dice : List Die) (x : Board) → checkers x ≡ 0 → all_runs dice x ≡ x ∷ []
all_runs-finished [] x h = refl
all_runs-finished (d ∷ dice) x h =
    ap (λ b. cond b (x ∷ []) (flat_map (all_runs dice) (all_steps x d))) (eq-eqb (checkers x) 0 h)

-- else the first die steps from each point, and the rest are played from there
pub all_runs-on : (dice : List Die) (x : Board) (d : Die) → 0 < length dice → d ≡ get_or dice 0 d →
    (checkers x ≡ 0 → ⊥) → length x ≡ 6 →
    all_runs dice x ≡ from_points (take (length dice - 1) (drop 1 dice)) x (number d) 1 6
unfolding from_points
all_runs-on [] x d some is left six = absurd (omega arith)
all_runs-on (e ∷ dice) x d some is left six =
    ap (λ b. cond b (x ∷ []) (flat_map (all_runs dice) (all_steps x e)))
    (ne_eqb (checkers x) 0 left)
    ∙ ap (λ n. flat_map (all_runs dice) (flat_map (step_from x (number e)) (range_with_len 1 n)))
    six
    ∙ ap (λ f. flat_map (all_runs dice) (flat_map (step_from x (number f)) (range_with_len 1 6)))
    (sym is)
    ∙ ap (λ ds. flat_map (all_runs ds) (flat_map (step_from x (number d)) (range_with_len 1 6)))
    (sym (take_all _ _ (omega arith)))

-- the sum from a place on is that at the place and that after it
sum-after : (n : ℕ) (x : List ℕ) → sum (drop n x) ≡ get_or x n 0 + sum (drop (suc n) x)
sum-after zero [] = omega arith
sum-after zero (c ∷ cs) = omega (arith, sum_by-cons (λ k. k) c cs)
sum-after (suc n) [] = omega arith
sum-after (suc n) (c ∷ cs) = sum-after n cs

-- the checkers from a point on are those on it and those above it
pub sum-place : (n : ℕ) (x : List ℕ) → sum (drop n x) ≡ count x (n + 1) + sum (drop (n + 1) x)
sum-place n x = rw add-one (sum-after n x)

-- one point more, and what its step leads to
pub one_more_point : (rest : List Die) (x : Board) (d s : ℕ) (to start now next : List Board) →
    1 ≤ s → step_from x d s ≡ to → now ≡ start ++ from_points rest x d 1 (s - 1) →
    next ≡ now ++ flat_map (all_runs rest) to → next ≡ start ++ from_points rest x d 1 (s + 1 - 1)
one_more_point rest x d zero to start now next some leads before after = absurd (omega arith)
one_more_point rest x d (suc k) to start now next some leads before after =
    after
    ∙ ap (λ l. l ++ flat_map (all_runs rest) to)
    (before ∙ ap (λ n. start ++ from_points rest x d 1 n) (less k))
    ∙ append_assoc start (from_points rest x d 1 k) (flat_map (all_runs rest) to)
    ∙ ap (λ l. start ++ l)
    (ap (λ t. from_points rest x d 1 k ++ flat_map (all_runs rest) t) (sym leads)
    ∙ sym (from_points-last rest x d k))
    ∙ ap (λ n. start ++ from_points rest x d 1 n) (same k)
  where
    less : (k : ℕ) → suc k - 1 ≡ k
    less k = omega arith

    same : (k : ℕ) → suc k ≡ suc k + 1 - 1
    same k = omega arith

-- what one position leads to
pub from_one : (rest : List Die) (y : Board) (now next : List Board) →
    next ≡ now ++ all_runs rest y → next ≡ now ++ flat_map (all_runs rest) (y ∷ [])
from_one rest y now next after = after ∙ ap (λ l. now ++ l) (sym (append-nil (all_runs rest y)))

-- what no position leads to
pub from_nowhere : (rest : List Die) (now next : List Board) → next ≡ now →
    next ≡ now ++ flat_map (all_runs rest) []
from_nowhere rest now next after = after ∙ sym (append-nil now)
