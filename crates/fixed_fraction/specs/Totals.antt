-- Sums over the 21 rolls of what each leads to, each counted with the weight of its roll.
use Rattle.std.specs.Prelude.{◌≡◌, ℕ, ◌*◌, ◌≤◌, List, [], length, slice_index, slice_index_or, sum, sum_by}
use Rattle.race_model.specs.Prelude.{roll_index, weighted, whole}

-- the means, and for each of 0 to 22 rolls the shares, added up
pub record Totals : Type 0 where
  pub mean : ℕ
  pub shares : List ℕ

-- totals of 36 throws, by means of at most 22 rolls and shares that add up to the whole
pub record AreSmall (totals : Totals) : Type 0 where
  pub len : length totals.shares ≡ 23
  pub mean : totals.mean ≤ 36 * (22 * whole)
  pub shares : sum totals.shares ≡ 36 * whole

-- of the shares that the rolls lead to, by their index, the weighted sum of those of k rolls
abbrev pub weighted_at : List (List ℕ) → ℕ → ℕ
weighted_at spreads k = weighted (λ v. slice_index (slice_index_or spreads (roll_index v) []) k)

-- of the shares that the rolls with these indices lead to, each counted once, the sum of those of
-- k rolls
abbrev pub sum_at : List (List ℕ) → List ℕ → ℕ → ℕ
sum_at spreads indices k = sum_by (λ i. slice_index (slice_index_or spreads i []) k) indices

-- the weighted sum of the shares of exactly k rolls
abbrev pub weighted_share : List (ℕ × List ℕ) → ℕ → ℕ
weighted_share parts k = sum_by (λ part. part.0 * slice_index part.1 k) parts
