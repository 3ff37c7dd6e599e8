-- Lists that a loop fills from the front.
use Rattle.std.proofs.Common.{◌≡◌, ◌≢◌, ℕ, zero, suc, ◌+◌, ◌<◌, List, length, slice_set}
use Rattle.std.proofs.Common.{slice_index, replicate, refl, ◌∙◌, below_more, get_or-set_other}
use Rattle.std.proofs.Common.{get_or-set_same, arith}
use Rattle.std.proofs.lemmas.List.{length-set}

-- the first i numbers are what f says, and the list is as long as it was
pub record IsFilled (f : ℕ → ℕ) (n i : ℕ) (xs : List ℕ) : Type 0 where
  pub long : length xs ≡ n
  pub below : (m : ℕ) → m < i → slice_index xs m ≡ f m

-- one more is written
pub filled_more : (f : ℕ → ℕ) (n i v : ℕ) (xs : List ℕ) → IsFilled f n i xs → i < n → v ≡ f i →
    IsFilled f n (i + 1) (slice_set xs i v)
filled_more f n i v xs h room e = record {
  long = length-set xs i v ∙ h.long;
  below =
      let lt : i < length xs = omega (arith, h.long) in
      below_more (λ m. slice_index (slice_set xs i v) m ≡ f m) i
      (λ m l. let ne : m ≢ i = omega arith in get_or-set_other xs i m v 0 ne ∙ h.below m l)
      (get_or-set_same xs i v 0 lt ∙ e);
}

-- a list of zeros has zeros
pub zeros : (n m : ℕ) → slice_index (replicate n 0) m ≡ 0
zeros zero m = refl
zeros (suc n) zero = refl
zeros (suc n) (suc m) = zeros n m
