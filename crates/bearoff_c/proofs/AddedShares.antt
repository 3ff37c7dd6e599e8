-- Shares that are added up from the first on.
use Rattle.std.proofs.Common.{◌≡◌, ℕ, zero, suc, ◌+◌, ◌≤◌, sym, ap, ◌∙◌, arith, sum_by}
use Rattle.std.specs.List.{range_with_len}
use Rattle.std.proofs.lemmas.List.FromFn.{sum_by-map-range_with_len_more}
use Rattle.race_model.proofs.Numbers.Sums.{sum_by-map}

-- one number more
pub sum_next : (f : ℕ → ℕ) (k : ℕ) →
    sum_by f (range_with_len 0 (k + 1)) ≡ sum_by f (range_with_len 0 k) + f k
sum_next f k =
    sym (sum_by-map (λ n. n) f (range_with_len 0 (k + 1)))
    ∙ (sum_by-map-range_with_len_more (λ n. n) f 0 k k (omega arith)
    ∙ ap (λ s. s + f k) (sum_by-map (λ n. n) f (range_with_len 0 k)))

-- more numbers add up to no less
pub sum_rises : (f : ℕ → ℕ) (n m : ℕ) →
    sum_by f (range_with_len 0 n) ≤ sum_by f (range_with_len 0 (n + m))
sum_rises f n zero = let e : n + 0 ≡ n = omega arith in rw e (omega arith)
sum_rises f n (suc m) =
    let e : n + suc m ≡ n + m + 1 = omega arith in
    rw e (omega (arith, sum_rises f n m, sum_next f (n + m)))
