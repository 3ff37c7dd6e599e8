-- Sums over the rolls of what stands in a list by their index.
use Rattle.std.proofs.Common.{◌≡◌, ℕ, ◌+◌, ◌*◌, ◌^◌, ◌<◌, List, map, sym, ap, ◌∙◌, arith, slice_index}
use Rattle.std.proofs.Math.ListN.{get_or-map}
use Rattle.race_model.specs.Prelude.{roll_index, weight, all_rolls, weighted}
use Rattle.race_model.proofs.Dice.RollSums.{roll_index-range}
use Rattle.race_model.proofs.Numbers.Sums.{sum_by-equal, sum_by-times, sum_by-add}

-- sums of numbers that are the same for each index
pub weighted-by_index : (g h : ℕ → ℕ) → ((i : ℕ) → i < 21 → g i ≡ h i) →
    weighted (λ v. g (roll_index v)) ≡ weighted (λ v. h (roll_index v))
weighted-by_index g h same =
    sum_by-equal (λ v. weight v * g (roll_index v)) (λ v. weight v * h (roll_index v)) all_rolls
    (λ v. ap (λ n. weight v * n) (same (roll_index v) (roll_index-range v)))

-- sums of numbers of a list that are the same for each index
pub weighted-listed : (xs : List ℕ) (h : ℕ → ℕ) → ((i : ℕ) → i < 21 → slice_index xs i ≡ h i) →
    weighted (λ v. slice_index (map (λ x. x) xs) (roll_index v)) ≡ weighted (λ v. h (roll_index v))
weighted-listed xs h same =
    weighted-by_index (slice_index (map (λ x. x) xs)) h
    (λ i lt. get_or-map (λ x. x) xs i 0 ∙ same i lt)

-- numbers in two parts, whose parts are added up apart
pub weighted-parts : (uppers lowers h : ℕ → ℕ) (n m : ℕ) →
    n ≡ weighted (λ v. uppers (roll_index v)) → m ≡ weighted (λ v. lowers (roll_index v)) →
    ((i : ℕ) → i < 21 → uppers i * 36 ^ 11 + lowers i ≡ h i) →
    n * 36 ^ 11 + m ≡ weighted (λ v. h (roll_index v))
weighted-parts uppers lowers h n m up low are =
    omega (
      arith,
      up,
      low,
      sum_by-times (36 ^ 11) (λ v. weight v * uppers (roll_index v)) all_rolls,
      sum_by-add (λ v. weight v * h (roll_index v))
          (λ v. 36 ^ 11 * (weight v * uppers (roll_index v)))
          (λ v. weight v * lowers (roll_index v)) all_rolls
          (λ v. sym (ap (λ k. weight v * k) (are (roll_index v) (roll_index-range v)))
          ∙ spread (weight v) (uppers (roll_index v)) (lowers (roll_index v))),
    )
  where
    spread : (w a b : ℕ) → w * (a * 36 ^ 11 + b) ≡ 36 ^ 11 * (w * a) + w * b
    spread w a b = omega arith
