-- The best play of a roll, from the best after its dice in either order.
use Rattle.std.proofs.Common.{◌≡◌, ◌≢◌, ◌⊎◌, inl, inr, ⊎_elim, ◌↔◌, ℕ, zero, suc, ◌-◌, ◌<◌, [], ◌∷◌, replicate, sym, ap}
use Rattle.std.proofs.Common.{ap₂, subst, ◌∙◌, arith, slice_index, slice_index_or}
use Rattle.std.proofs.lemmas.Bool.{cases_eq}
use Rattle.race_model.specs.Prelude.{Board, Die, Throw, number, Run, Legal, rank, IsBestPlay}
use Rattle.race_model.proofs.Dice.Faces.{same_number, number_positive}
use Rattle.race_model.proofs.Ranks.BestPlays.{run_lower}
use Rattle.legal_plays.proofs.LegalLemmas.{legal_double, legal_apart}
use Rattle.least_plays.specs.Firsts.{IsNoWorse}
use Rattle.least_plays.specs.Known.{dice_left, IsBestAfter, AreStarts}
use Rattle.least_plays.specs.declared.starts.Start.{Start}
use Rattle.least_plays.specs.declared.starts.Starts.{Starts}
use Rattle.least_plays.proofs.Best.{no_worse_on, no_worse_of_best, best_of_no_worse, best_same}
use Rattle.least_plays.proofs.Best.{dice_left-same, dice_left-apart}

-- the starts of a position
module _ (mean : ℕ → ℕ) (count : ℕ) (starts : Starts) (are : AreStarts mean count starts)
    (other : Start) where
  -- the best after two dice, by their places
  abbrev play : ℕ → ℕ → ℕ
  play i j = slice_index (slice_index_or starts.dice i other).plays j

  play-at : (d e : Die) (i j : ℕ) → i ≡ number d - 1 → j ≡ number e - 1 →
      IsBestAfter mean starts.position (d ∷ replicate (dice_left d e) e) (play i j)
  play-at d e i j first second =
      let dice = d ∷ replicate (dice_left d e) e in
      subst (λ i. IsBestAfter mean starts.position dice (play i j)) (sym first)
      (subst (λ j. IsBestAfter mean starts.position dice (play (number d - 1) j)) (sym second)
      ((are.each d other).plays e))

  -- it is a rank whose mean is there
  pub play_held : (d e : Die) (i j : ℕ) → i ≡ number d - 1 → j ≡ number e - 1 → play i j < count
  play_held d e i j first second =
      let y = (play-at d e i j first second).reached in
      let lower = run_lower d (replicate (dice_left d e) e) starts.position y.0 are.position
      are.unfinished y.1 in
      omega (arith, lower, y.2, are.held)

  -- the best play of a double
  double_best : (v : Throw) (i j : ℕ) → i ≡ number v.first - 1 → j ≡ number v.second - 1 →
      i ≡ j → IsBestPlay mean starts.position v (play i j)
  double_best v i j first second same =
      let e : number v.first ≡ number v.second =
      omega (arith, number_positive v.first, number_positive v.second) in
      let double : v.first ≡ v.second = same_number v.first v.second e in
      let left = subst
      (λ n. IsBestAfter mean starts.position (v.first ∷ replicate n v.second) (play i j))
      (dice_left-same v.first v.second e) (play-at v.first v.second i j first second) in
      best_same mean
      (Run starts.position (v.first ∷ v.first ∷ v.first ∷ v.first ∷ []))
      (Legal starts.position v) (play i j) (λ y. legal_double starts.position v y double)
      (subst (λ e. IsBestAfter mean starts.position (v.first ∷ replicate 3 e) (play i j))
      (sym double) left)

  -- the best play of two different dice
  apart_best : (v : Throw) (i j r : ℕ) → i ≡ number v.first - 1 → j ≡ number v.second - 1 →
      i ≢ j → (r ≡ play i j) ⊎ (r ≡ play j i) → IsNoWorse mean r (play i j) →
      IsNoWorse mean r (play j i) → IsBestPlay mean starts.position v r
  apart_best v i j r first second apart one before now =
      best_of_no_worse mean (Legal starts.position v) r
      (⊎_elim
      (λ is. (
        here.reached.0,
        (legal here.reached.0).0 (inl here.reached.1),
        here.reached.2 ∙ sym is,
      ))
      (λ is. (
        there.reached.0,
        (legal there.reached.0).0 (inr there.reached.1),
        there.reached.2 ∙ sym is,
      ))
      one)
      (λ y got. ⊎_elim
      (λ run. no_worse_on mean r (play i j) (rank y) before
      (no_worse_of_best mean (Run starts.position (v.first ∷ v.second ∷ [])) (play i j) y here
      run))
      (λ run. no_worse_on mean r (play j i) (rank y) now
      (no_worse_of_best mean (Run starts.position (v.second ∷ v.first ∷ [])) (play j i) y there
      run))
      ((legal y).1 got))
    where
      differ : number v.first ≢ number v.second
      differ e = apart (omega arith)

      legal : (y : Board) →
          (Run starts.position (v.first ∷ v.second ∷ []) y
          ⊎ Run starts.position (v.second ∷ v.first ∷ []) y) ↔ Legal starts.position v y
      legal y = legal_apart starts.position v y (λ e. differ (ap number e))

      here : IsBestAfter mean starts.position (v.first ∷ v.second ∷ []) (play i j)
      here =
          subst (λ n. IsBestAfter mean starts.position (v.first ∷ replicate n v.second) (play i j))
          (dice_left-apart v.first v.second differ) (play-at v.first v.second i j first second)

      there : IsBestAfter mean starts.position (v.second ∷ v.first ∷ []) (play j i)
      there =
          subst (λ n. IsBestAfter mean starts.position (v.second ∷ replicate n v.first) (play j i))
          (dice_left-apart v.second v.first (λ e. differ (sym e)))
          (play-at v.second v.first j i second first)

  -- the best play of a roll is the better of both orders
  pub better_best : (v : Throw) (i j r : ℕ) → i ≡ number v.first - 1 → j ≡ number v.second - 1 →
      (r ≡ play i j) ⊎ (r ≡ play j i) → IsNoWorse mean r (play i j) →
      IsNoWorse mean r (play j i) → IsBestPlay mean starts.position v r
  better_best v i j r first second one before now = ⊎_elim
      (λ same.
      let e : play j i ≡ play i j = ap₂ play (sym same) same in
      subst (IsBestPlay mean starts.position v)
      (sym (⊎_elim (λ is. is) (λ is. is ∙ e) one))
      (double_best v i j first second same))
      (λ apart. apart_best v i j r first second apart one before now)
      (cases_eq i j)

-- what holds at the first place and at each of those behind it holds at each place
pub each : (P : ℕ → Type 0) (n : ℕ) → P 0 → ((j : ℕ) → j < n → P (suc j)) → (j : ℕ) →
    j < suc n → P j
each P n first others zero lt = first
each P n first others (suc j) lt = others j (omega (arith, lt))
