-- The members of the list of results are the results.
use Rattle.std.proofs.Common.{◌≡◌, ◌≢◌, ◌⊎◌, inl, inr, ⊎_elim, ℕ, zero, suc, ◌+◌, ◌-◌, ◌<◌, ◌≤◌}
use Rattle.std.proofs.Common.{Bool, true, false, cond, eqb, ltb, List, [], ◌∷◌, ◌++◌, length}
use Rattle.std.proofs.Common.{get_or, Contains, drop, sum, flat_map, refl, ap, sym, subst, ◌∙◌}
use Rattle.std.proofs.Common.{arith, eq-eqb, ne_eqb, eqb-true, ltb-true, ltb-false, lt-ltb, le-ltb}
use Rattle.std.specs.List.{range_with_len}
use Rattle.std.proofs.lemmas.Bool.{eqb-false}
use Rattle.std.proofs.lemmas.List.{get_or-drop}
use Rattle.race_model.specs.Prelude.{Board, checkers, fewer, more, Die, number, Throw, StepFrom, bear_off, move_down}
use Rattle.race_model.specs.Prelude.{from_highest, Step, Run, Legal, in_order, in_reverse, double, step_from, all_steps}
use Rattle.race_model.specs.Prelude.{all_runs, all_results}
use Rattle.race_model.specs.Positions.{count}
use Rattle.race_model.proofs.Numbers.Sums.{sum-zeros}
use Rattle.race_model.proofs.Plays.Steps.{occupied_place}
use Rattle.race_model.proofs.Dice.Faces.{number_positive, numbers_apart, same_number}
use Rattle.race_model.proofs.Plays.MostPlays.{empty_at}
use Rattle.race_model.proofs.Plays.Needs.{under}

-- y is in the list
abbrev pub IsIn : {X : Type 0} → X → List X → Type 0
IsIn y [] = ⊥
IsIn y (x ∷ xs) = (y ≡ x) ⊎ IsIn y xs

-- what is in two lists joined is in one of them
in_append : {X : Type 0} (y : X) (xs ys : List X) → IsIn y (xs ++ ys) → IsIn y xs ⊎ IsIn y ys
in_append y [] ys h = inr h
in_append y (x ∷ xs) ys (inl e) = inl (inl e)
in_append y (x ∷ xs) ys (inr h) = ⊎_elim (λ l. inl (inr l)) (λ r. inr r) (in_append y xs ys h)

-- what is in the first list is in both joined
in_left : {X : Type 0} (y : X) (xs ys : List X) → IsIn y xs → IsIn y (xs ++ ys)
in_left y [] ys h = absurd h
in_left y (x ∷ xs) ys (inl e) = inl e
in_left y (x ∷ xs) ys (inr h) = inr (in_left y xs ys h)

-- what is in the second list is in both joined
in_right : {X : Type 0} (y : X) (xs ys : List X) → IsIn y ys → IsIn y (xs ++ ys)
in_right y [] ys h = h
in_right y (x ∷ xs) ys h = inr (in_right y xs ys h)

-- what is in lists joined is in one of them
in_flat_map : {A X : Type 0} (f : A → List X) (y : X) (xs : List A) → IsIn y (flat_map f xs) →
    (a : A) × (IsIn a xs × IsIn y (f a))
in_flat_map f y [] h = absurd h
in_flat_map f y (x ∷ xs) h =
    ⊎_elim (λ l. (x, (inl refl, l)))
    (λ r. let rest = in_flat_map f y xs r in (rest.0, (inr rest.1.0, rest.1.1)))
    (in_append y (f x) (flat_map f xs) h)

-- what is in one list is in all of them joined
from_flat_map : {A X : Type 0} (f : A → List X) (y : X) (xs : List A) (a : A) → IsIn a xs →
    IsIn y (f a) → IsIn y (flat_map f xs)
from_flat_map f y [] a h k = absurd h
from_flat_map f y (x ∷ xs) a (inl e) k =
    in_left y (f x) (flat_map f xs) (subst (λ b. IsIn y (f b)) e k)
from_flat_map f y (x ∷ xs) a (inr h) k =
    in_right y (f x) (flat_map f xs) (from_flat_map f y xs a h k)

-- a number is in the range that reaches beyond it
in_range : (a n k : ℕ) → a ≤ k → k < a + n → IsIn k (range_with_len a n)
in_range a zero k low high = absurd (omega arith)
in_range a (suc n) k low high =
    ⊎_elim (λ e. inl e) (λ more. inr (in_range (a + 1) n k more (omega arith))) (split k a low)
  where
    split : (k a : ℕ) → a ≤ k → (k ≡ a) ⊎ (a + 1 ≤ k)
    split k a low = grind arith

-- a test and its two outcomes
by_test : {X : Type 0} (b : Bool) (y : X) (xs ys : List X) → IsIn y (cond b xs ys) →
    ((b ≡ true) × IsIn y xs) ⊎ ((b ≡ false) × IsIn y ys)
by_test true y xs ys h = inl (refl, h)
by_test false y xs ys h = inr (refl, h)

-- nothing stands above point s where the sum of the counts there is 0
above_empty : (x : Board) (s : ℕ) → sum (drop s x) ≡ 0 → (q : ℕ) → s < q → count x q ≡ 0
above_empty x s none zero over = refl
above_empty x s none (suc j) over =
    subst (λ i. get_or x i 0 ≡ 0) (there s j over)
    (sym (get_or-drop s x (j - s) 0) ∙ empty_at (drop s x) (suc (j - s)) none)
  where
    there : (s j : ℕ) → s < suc j → s + (j - s) ≡ j
    there s j h = omega arith

-- where nothing stands above point s, the sum of the counts there is 0
empty_above : (x : Board) (s : ℕ) → ((q : ℕ) → s < q → count x q ≡ 0) → sum (drop s x) ≡ 0
empty_above x s empty =
    sum-zeros (drop s x) (λ k. get_or-drop s x k 0 ∙ empty (suc (s + k)) (omega arith))

-- a listed step is a step
step_of_listed : (x : Board) (d s : ℕ) (y : Board) → 0 < d → IsIn y (step_from x d s) →
    StepFrom x d s y
step_of_listed x d s y positive h = ⊎_elim
    (λ none. absurd none.1)
    (λ here. ⊎_elim
    (λ down.
    ⊎_elim (λ e. move_down (ltb-true d s down.0) (occupied here.0) e) (λ n. absurd n) down.1)
    (λ rest. ⊎_elim
    (λ at. ⊎_elim (λ e. bear_off (eqb-true s d at.0) (occupied here.0) e) (λ n. absurd n) at.1)
    (λ below. ⊎_elim
    (λ top.
    ⊎_elim
    (λ e.
    from_highest
    (λ q over.
    above_empty x s (eqb-true (sum (drop s x)) 0 top.0) q
    (less s d rest.0 below.0 q over))
    (record {
      occupied = occupied here.0;
      above = above_empty x s (eqb-true (sum (drop s x)) 0 top.0);
    }) e) (λ n. absurd n) top.1)
    (λ n. absurd n.1)
    (by_test (eqb (sum (drop s x)) 0) y (fewer x s ∷ []) [] below.1))
    (by_test (eqb s d) y (fewer x s ∷ []) _ rest.1))
    (by_test (ltb d s) y (more (fewer x s) (s - d) ∷ []) _ here.1))
    (by_test (eqb (count x s) 0) y [] _ h)
  where
    pos : (n : ℕ) → (n ≡ 0 → ⊥) → 0 < n
    pos n apart = omega arith

    below : (s d q : ℕ) → s ≤ d → (s ≡ d → ⊥) → d ≤ q → s < q
    below s d q le apart over = omega arith

    occupied : eqb (count x s) 0 ≡ false → 0 < count x s
    occupied e = let apart = eqb-false (count x s) 0 e in pos (count x s) apart

    less : (s d : ℕ) → ltb d s ≡ false → eqb s d ≡ false → (q : ℕ) → d ≤ q → s < q
    less s d e f q over =
        let le = ltb-false d s e in let apart = eqb-false s d f in below s d q le apart over

-- the four tests of a listed step
abbrev chosen : Bool → Bool → Bool → Bool → List Board → List Board → List Board
chosen a b c e down off = cond a [] (cond b down (cond c off (cond e off [])))

-- a step is listed
listed_step : (x : Board) (d s : ℕ) (y : Board) → StepFrom x d s y → IsIn y (step_from x d s)
listed_step x d s y (bear_off at occupied to) = subst (IsIn y) (sym tests) (inl to)
  where
    tests : step_from x d s ≡ fewer x s ∷ []
    tests =
        λ i.
        chosen (ne_eqb (count x s) 0 (omega arith) i) (le-ltb d s (omega arith) i)
        (eq-eqb s d at i) (eqb (sum (drop s x)) 0) (more (fewer x s) (s - d) ∷ [])
        (fewer x s ∷ [])
listed_step x d s y (move_down below occupied to) = subst (IsIn y) (sym tests) (inl to)
  where
    tests : step_from x d s ≡ more (fewer x s) (s - d) ∷ []
    tests =
        λ i.
        chosen (ne_eqb (count x s) 0 (omega arith) i) (lt-ltb d s below i) (eqb s d)
        (eqb (sum (drop s x)) 0) (more (fewer x s) (s - d) ∷ []) (fewer x s ∷ [])
listed_step x d s y (from_highest empty top to) = subst (IsIn y) (sym tests) (inl to)
  where
    apart : s ≡ d → ⊥
    apart e =
        let none = empty s (omega arith) in let some = top.occupied in omega (arith, none, some)

    here : count x s ≡ 0 → ⊥
    here e = let some = top.occupied in omega (arith, some, e)

    tests : step_from x d s ≡ fewer x s ∷ []
    tests =
        λ i.
        chosen (ne_eqb (count x s) 0 here i) (le-ltb d s (under x s d empty top.occupied) i)
        (ne_eqb s d apart i) (eq-eqb (sum (drop s x)) 0 (empty_above x s top.above) i)
        (more (fewer x s) (s - d) ∷ []) (fewer x s ∷ [])

-- a step leaves an occupied point
pub from_occupied : (x : Board) (d s : ℕ) (y : Board) → StepFrom x d s y → 0 < count x s
from_occupied x d s y (bear_off _ occupied _) = occupied
from_occupied x d s y (move_down _ occupied _) = occupied
from_occupied x d s y (from_highest _ top _) = top.occupied

-- the list of all steps of a die
steps_listed : (x : Board) (d : Die) (y : Board) → IsIn y (all_steps x d) → Step x d y
steps_listed x d y h =
    let found = in_flat_map (step_from x (number d)) y (range_with_len 1 (length x)) h in
    (found.0, step_of_listed x (number d) found.0 y (number_positive d) found.1.1)

-- each step of a die is in the list of them
listed_steps : (x : Board) (d : Die) (y : Board) → Step x d y → IsIn y (all_steps x d)
listed_steps x d y (s, goes) =
    let place = occupied_place x s (from_occupied x (number d) s y goes) in
    from_flat_map (step_from x (number d)) y (range_with_len 1 (length x)) s
    (in_range 1 (length x) s place.0 (omega (arith, place.1)))
    (listed_step x (number d) s y goes)

-- the list of all runs of some dice
runs_listed : (dice : List Die) (x y : Board) → IsIn y (all_runs dice x) → Run x dice y
runs_listed [] x y h = ⊎_elim (λ e. e) (λ n. absurd n) h
runs_listed (d ∷ dice) x y h = ⊎_elim
    (λ end. inl (eqb-true (checkers x) 0 end.0, ⊎_elim (λ e. e) (λ n. absurd n) end.1))
    (λ before.
    further before.0 (in_flat_map (all_runs dice) y (all_steps x d) before.1)
    (runs_listed dice))
    (by_test (eqb (checkers x) 0) y (x ∷ []) (flat_map (all_runs dice) (all_steps x d)) h)
  where
    further : eqb (checkers x) 0 ≡ false →
        (z : Board) × (IsIn z (all_steps x d) × IsIn y (all_runs dice z)) →
        ((z y : Board) → IsIn y (all_runs dice z) → Run z dice y) → Run x (d ∷ dice) y
    further e (z, (step, rest)) run =
        inr (eqb-false (checkers x) 0 e, (z, (steps_listed x d z step, run z y rest)))

-- each run of some dice is in the list of them
listed_runs : (dice : List Die) (x y : Board) → Run x dice y → IsIn y (all_runs dice x)
listed_runs [] x y run = inl run
listed_runs (d ∷ dice) x y run = ⊎_elim
    (λ end.
    subst (λ b. IsIn y (cond b (x ∷ []) (flat_map (all_runs dice) (all_steps x d))))
    (sym (eq-eqb (checkers x) 0 end.0)) (inl end.1))
    (λ before.
    subst (λ b. IsIn y (cond b (x ∷ []) (flat_map (all_runs dice) (all_steps x d))))
    (sym (ne_eqb (checkers x) 0 before.0))
    (from_flat_map (all_runs dice) y (all_steps x d) before.1.0
    (listed_steps x d before.1.0 before.1.1.0)
    (listed_runs dice before.1.0 y before.1.1.1)))
    run

-- the list of all results of a throw
pub results_listed : (x : Board) (v : Throw) (y : Board) → IsIn y (all_results x v) → Legal x v y
results_listed x v y h = ⊎_elim
    (λ same.
    double (same_number v.first v.second (eqb-true (number v.first) (number v.second) same.0))
    (runs_listed (v.first ∷ v.first ∷ v.first ∷ v.first ∷ []) x y same.1))
    (λ apart. ⊎_elim
    (λ l. in_order (other apart.0) (runs_listed (v.first ∷ v.second ∷ []) x y l))
    (λ r. in_reverse (other apart.0) (runs_listed (v.second ∷ v.first ∷ []) x y r))
    (in_append y (all_runs (v.first ∷ v.second ∷ []) x) (all_runs (v.second ∷ v.first ∷ []) x)
    apart.1))
    (by_test (eqb (number v.first) (number v.second)) y
    (all_runs (v.first ∷ v.first ∷ v.first ∷ v.first ∷ []) x)
    (all_runs (v.first ∷ v.second ∷ []) x ++ all_runs (v.second ∷ v.first ∷ []) x) h)
  where
    other : eqb (number v.first) (number v.second) ≡ false → v.first ≢ v.second
    other e same = eqb-false (number v.first) (number v.second) e (ap number same)

-- the list, by the test whether the dice are the same
abbrev listed_by : Board → Throw → Bool → List Board
listed_by x v b =
    cond b (all_runs (v.first ∷ v.first ∷ v.first ∷ v.first ∷ []) x)
    (all_runs (v.first ∷ v.second ∷ []) x ++ all_runs (v.second ∷ v.first ∷ []) x)

-- each result of a throw is in the list
pub listed_results : (x : Board) (v : Throw) (y : Board) → Legal x v y → IsIn y (all_results x v)
listed_results x v y (in_order apart run) =
    subst (λ b. IsIn y (listed_by x v b))
    (sym (ne_eqb (number v.first) (number v.second) (numbers_apart v.first v.second apart)))
    (in_left y (all_runs (v.first ∷ v.second ∷ []) x) (all_runs (v.second ∷ v.first ∷ []) x)
    (listed_runs (v.first ∷ v.second ∷ []) x y run))
listed_results x v y (in_reverse apart run) =
    subst (λ b. IsIn y (listed_by x v b))
    (sym (ne_eqb (number v.first) (number v.second) (numbers_apart v.first v.second apart)))
    (in_right y (all_runs (v.first ∷ v.second ∷ []) x) (all_runs (v.second ∷ v.first ∷ []) x)
    (listed_runs (v.second ∷ v.first ∷ []) x y run))
listed_results x v y (double same run) =
    subst (λ b. IsIn y (listed_by x v b))
    (sym (eq-eqb (number v.first) (number v.second) (ap number same)))
    (listed_runs (v.first ∷ v.first ∷ v.first ∷ v.first ∷ []) x y run)

-- the same, in the words of lists
pub contains_of_in : (y : Board) (xs : List Board) → IsIn y xs → Contains xs y
contains_of_in y [] h = absurd h
contains_of_in y (x ∷ xs) (inl e) = (0, omega arith, sym e)
contains_of_in y (x ∷ xs) (inr h) =
    let rest = contains_of_in y xs h in (suc rest.0, omega (arith, rest.1), rest.2)

-- what a list contains is in it
pub in_of_contains : (y : Board) (xs : List Board) → Contains xs y → IsIn y xs
in_of_contains y [] (k, h, e) = omega arith
in_of_contains y (x ∷ xs) (zero, h, e) = inl (sym e)
in_of_contains y (x ∷ xs) (suc k, h, e) = inr (in_of_contains y xs (k, omega arith, e))
