-- Each position has a least total over so many throws as its games can take, whether or not a file
-- records it: for each throw one of the results has the least total of all, and the plan that plays
-- there is the least.
use Rattle.std.proofs.Common.{◌≡◌, ◌⊎◌, inl, inr, ⊎_elim, ℕ, zero, suc, ◌≤◌, List, [], ◌∷◌, refl}
use Rattle.std.proofs.Common.{sym, subst, arith, le_trans, le_antisymm, le_of_eq, zero-le}
use Rattle.race_model.specs.Prelude.{Board, IsPosition, IsFinished, pips, Throw, throws, Legal, Strategy, stop, turn}
use Rattle.race_model.specs.Prelude.{Fits, total_over, IsLeastIn, IsLeast, IsWithin, EndsIn, all_results}
use Rattle.race_model.proofs.Numbers.Sums.{sum_by-at_most}
use Rattle.race_model.proofs.Plays.Results.{finished_or_not, legal_somewhere}
use Rattle.race_model.proofs.Strategies.Histories.{fits_within, within_up}
use Rattle.race_model.proofs.Strategies.Horizons.{ends_in_22, ends_in_33}
use Rattle.race_model.proofs.Strategies.Totals.{total_over-turn_times_36, total_over-stop}
use Rattle.race_model.proofs.Plays.Enumerated.{IsIn, results_listed, listed_results}

-- two least totals of one position are equal
pub least_in_agree : (m : ℕ) (x : Board) (t u : ℕ) → IsLeastIn m x t → IsLeastIn m x u → t ≡ u
least_in_agree m x t u a b =
    le_antisymm (subst (λ n. t ≤ n) b.reached.2 (a.least b.reached.0 b.reached.1))
    (subst (λ n. u ≤ n) a.reached.2 (b.least a.reached.0 a.reached.1))

-- a position has a least total over all sequences of m throws
abbrev HasLeast : ℕ → Board → Type 0
HasLeast m x = (t : ℕ) × IsLeastIn m x t

-- of the members of a list one has the least total
record IsBestIn (m : ℕ) (xs : List Board) : Type 0 where
  best : Board
  member : IsIn best xs
  least : HasLeast m best
  no_less : (z : Board) (u : ℕ) → IsIn z xs → IsLeastIn m z u → least.0 ≤ u

-- what is least of one member is no greater than any least total of that member
same_least : (m : ℕ) (x z : Board) (first : HasLeast m x) (u : ℕ) → z ≡ x → IsLeastIn m z u →
    first.0 ≤ u
same_least m x z first u e least =
    le_of_eq
    (least_in_agree m z first.0 u (subst (λ y. IsLeastIn m y first.0) (sym e) first.1) least)

best_in : (m : ℕ) (x : Board) (xs : List Board) → ((z : Board) → IsIn z (x ∷ xs) → HasLeast m z) →
    IsBestIn m (x ∷ xs)
best_in m x [] each = record {
  best = x;
  member = inl refl;
  least = each x (inl refl);
  no_less =
      λ z u h least.
      ⊎_elim (λ e. same_least m x z (each x (inl refl)) u e least) (λ n. absurd n) h;
}
best_in m x (y ∷ ys) each = choose (each x (inl refl)) (best_in m y ys (λ z h. each z (inr h)))
  where
    order : (a b : ℕ) → (a ≤ b) ⊎ (b ≤ a)
    order a b = grind arith

    choose : HasLeast m x → IsBestIn m (y ∷ ys) → IsBestIn m (x ∷ y ∷ ys)
    choose first rest = ⊎_elim
        (λ le. record {
          best = x;
          member = inl refl;
          least = first;
          no_less =
              λ z u h least.
              ⊎_elim (λ e. same_least m x z first u e least)
              (λ k. le_trans le (rest.no_less z u k least)) h;
        })
        (λ le. record {
          best = rest.best;
          member = inr rest.member;
          least = rest.least;
          no_less =
              λ z u h least.
              ⊎_elim (λ e. le_trans le (same_least m x z first u e least))
              (λ k. rest.no_less z u k least) h;
        })
        (order first.0 rest.least.0)

-- the best of a list that has a member
best_of_some : (m : ℕ) (xs : List Board) (y : Board) → IsIn y xs →
    ((z : Board) → IsIn z xs → HasLeast m z) → IsBestIn m xs
best_of_some m [] y h each = absurd h
best_of_some m (x ∷ xs) y h each = best_in m x xs each

-- the best result of a throw
best_result : (m : ℕ) (x : Board) (v : Throw) → ((z : Board) → Legal x v z → HasLeast m z) →
    IsBestIn m (all_results x v)
best_result m x v each =
    best_of_some m (all_results x v) (legal_somewhere x v).0
    (listed_results x v (legal_somewhere x v).0 (legal_somewhere x v).1)
    (λ z h. each z (results_listed x v z h))

-- the finished position has the total 0
least_at_end : (m : ℕ) (x : Board) → IsFinished x → HasLeast m x
least_at_end m x none =
    (0, record { reached = (stop, none, total_over-stop m); least = λ s fits. zero-le })

-- an unfinished position, from which each throw leads to positions that have a least total
module _ (m n : ℕ) (few : n ≤ m) (x : Board) (unfinished : ¬ IsFinished x)
    (ends : (v : Throw) (y : Board) → Legal x v y → EndsIn n y)
    (each : (v : Throw) (z : Board) → Legal x v z → HasLeast (suc m) z) where
  best : (v : Throw) → IsBestIn (suc m) (all_results x v)
  best v = best_result (suc m) x v (each v)

  to : Throw → Board
  to v = (best v).best

  next : Throw → Strategy
  next v = (best v).least.1.reached.0

  least_before : HasLeast (suc m) x
  unfolding best to next
  least_before = (
    total_over (suc m) (turn to next),
    record { reached = (turn to next, fits, refl); least = no_less },
  )
    where
      legal : (v : Throw) → Legal x v (to v)
      legal v = results_listed x v (to v) (best v).member

      fits : Fits (turn to next) x
      fits = (unfinished, λ v. (legal v, (best v).least.1.reached.1))

      within : (p : Throw → Board) (s : Throw → Strategy) → Fits (turn p s) x → (v : Throw) →
          IsWithin m (s v)
      within p s fits v =
          within_up n m (s v) few
          (fits_within n (p v) (s v) (ends v (p v) (fits.1 v).0) (fits.1 v).1)

      branch : (p : Throw → Board) (s : Throw → Strategy) → Fits (turn p s) x → (v : Throw) →
          total_over (suc m) (next v) ≤ total_over (suc m) (s v)
      branch p s fits v =
          let there = each v (p v) (fits.1 v).0 in
          subst (λ t. t ≤ total_over (suc m) (s v)) (sym (best v).least.1.reached.2)
          (le_trans
          ((best v).no_less (p v) there.0 (listed_results x v (p v) (fits.1 v).0) there.1)
          (there.1.least (s v) (fits.1 v).1))

      no_less : (s : Strategy) → Fits s x →
          total_over (suc m) (turn to next) ≤ total_over (suc m) s
      no_less stop none = absurd (unfinished none)
      no_less (turn p s) other =
          let ours = total_over-turn_times_36 m to next (within to next fits) in
          let theirs = total_over-turn_times_36 m p s (within p s other) in
          let sums =
          sum_by-at_most (λ v. total_over (suc m) (next v)) (λ v. total_over (suc m) (s v)) throws
          (branch p s other) in
          omega (arith, ours, theirs, sums)

-- so each position whose games are over within so many throws has one
least_within : (m n : ℕ) (x : Board) → n ≤ suc m → EndsIn n x → HasLeast (suc m) x
least_within m zero x le ends = least_at_end (suc m) x ends
least_within m (suc n) x le ends = ⊎_elim
    (λ none. least_at_end (suc m) x none)
    (λ unfinished. before unfinished (λ y. least_within m n y (omega arith)))
    (finished_or_not x)
  where
    before : ¬ IsFinished x → ((y : Board) → EndsIn n y → HasLeast (suc m) y) →
        HasLeast (suc m) x
    before unfinished rest =
        least_before m n (omega arith) x unfinished (ends unfinished)
        (λ v z leads. rest z (ends unfinished v z leads))

-- each position of at most 58 pips has one over 22 throws
pub least_exists : (x : Board) → IsPosition x → pips x ≤ 58 → (t : ℕ) × IsLeast x t
least_exists x at low = least_within 21 22 x (omega arith) (ends_in_22 x at low)

-- each position has a least total over 33 throws
pub least_exists_33 : (x : Board) → IsPosition x → (t : ℕ) × IsLeastIn 33 x t
least_exists_33 x at = least_within 32 33 x (omega arith) (ends_in_33 x at)
