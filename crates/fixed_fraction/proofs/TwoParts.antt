-- Numbers in two parts, and powers of 36.
use Rattle.std.proofs.Common.{◌≡◌, ℕ, ◌+◌, ◌-◌, ◌*◌, ◌/◌, ◌%◌, ◌^◌, ◌<◌, ◌≤◌, subst, sym, ap, ◌∙◌, arith}
use Rattle.std.proofs.lemmas.Nat.{pow-add, mul-pow}
use Rattle.std.proofs.Math.Nat.{pow-le-pow_right, mul-le-mul, mul-le-mul_right}
use Rattle.fixed_fraction.specs.Ratios.{IsDivided}
use Rattle.fixed_fraction.specs.Board.{part, WeightedSum}

-- a number with its weight is added part by part
parts_added : (u l w a b s n : ℕ) → u * part + l ≡ s → a * part + b ≡ n →
    (u + w * a) * part + (l + w * b) ≡ s + w * n
parts_added u l w a b s n e f =
    apart u l w a b ∙ ap (λ k. k + w * (a * part + b)) e ∙ ap (λ k. s + w * k) f
  where
    apart : (u l w a b : ℕ) →
        (u + w * a) * part + (l + w * b) ≡ u * part + l + w * (a * part + b)
    apart u l w a b = omega arith

-- a number with its weight is added to a sum and its weight
pub sum_added : (u l v w a b n : ℕ) (before : WeightedSum) →
    ◌≡◌ {A = WeightedSum} (record { weight = v; sum = u * part + l }) before →
    a * part + b ≡ n →
    ◌≡◌ {A = WeightedSum} (record { weight = v + w; sum = (u + w * a) * part + (l + w * b) })
    (record { weight = before.weight + w; sum = before.sum + w * n })
sum_added u l v w a b n before is same =
    ap (λ t. record { weight = v + w; sum = t })
    (parts_added u l w a b before.sum n (ap (λ (s : WeightedSum). s.sum) is) same)
    ∙ ap (λ t. record { weight = t + w; sum = before.sum + w * n })
    (ap (λ (s : WeightedSum). s.weight) is)

-- a power of 36 is one of 11 fewer times 36 ^ 11
pub power_in_parts : (k : ℕ) → 11 ≤ k → 36 ^ (k - 11) * part ≡ 36 ^ k
power_in_parts k some = sym (pow-add 36 (k - 11) 11) ∙ ap (λ n. 36 ^ n) (same k some)
  where
    same : (k : ℕ) → 11 ≤ k → k - 11 + 11 ≡ k
    same k some = omega arith

-- a power of 36 has as many threes and twos as twice its exponent
power_of_factors : (k : ℕ) → 3 ^ (2 * k) * 2 ^ (2 * k) ≡ 36 ^ k
power_of_factors k =
    ap (λ n. n * 2 ^ (2 * k)) (squared 3 k)
    ∙ ap (λ n. 9 ^ k * n) (squared 2 k)
    ∙ sym (mul-pow 9 4 k)
  where
    twice : (k : ℕ) → 2 * k ≡ k + k
    twice k = omega arith

    squared : (n k : ℕ) → n ^ (2 * k) ≡ (n * n) ^ k
    squared n k = ap (λ e. n ^ e) (twice k) ∙ pow-add n k k ∙ sym (mul-pow n n k)

-- a power of 36 grows with its exponent
pub power_within : (j k : ℕ) → j ≤ k → 36 ^ j ≤ 36 ^ k
power_within j k few = pow-le-pow_right (omega arith) few

-- powers of 36 that are 33 together
pub powers_of_whole : (k : ℕ) → k ≤ 33 → 36 ^ k * 36 ^ (33 - k) ≡ 36 ^ 33
powers_of_whole k few = sym (pow-add 36 k (33 - k)) ∙ ap (λ e. 36 ^ e) (all k few)
  where
    all : (k : ℕ) → k ≤ 33 → k + (33 - k) ≡ 33
    all k few = omega arith

-- so a share of at most 36 ^ k in 36 ^ k is at most the whole
pub share_within : (n k : ℕ) → k ≤ 33 → n ≤ 36 ^ k → n * 36 ^ (33 - k) ≤ 36 ^ 33
share_within n k few most =
    subst (λ m. n * 36 ^ (33 - k) ≤ m) (powers_of_whole k few)
    (mul-le-mul_right (36 ^ (33 - k)) most)

-- the share over the whole is divided to its count over 36 ^ k
pub share_divided : (n k : ℕ) → k ≤ 33 →
    IsDivided (n * 36 ^ (33 - k)) (36 ^ 33) n (3 ^ (2 * k) * 2 ^ (2 * k))
share_divided n k few = record {
  factor = 36 ^ (33 - k);
  over = turned (36 ^ (33 - k)) n;
  under = ap (λ m. 36 ^ (33 - k) * m) (power_of_factors k)
      ∙ turned (36 ^ (33 - k)) (36 ^ k) ∙ powers_of_whole k few;
} where
  turned : (a b : ℕ) → a * b ≡ b * a
  turned a b = omega arith

-- the same share as a number of whole parts, where it has no lower one
pub whole_share : (n k : ℕ) → k ≤ 22 → n ≤ 36 ^ k →
    (n * 36 ^ (22 - k) * part ≡ n * 36 ^ (33 - k)) × (n * 36 ^ (22 - k) ≤ 36 ^ 22)
whole_share n k few most =
    let is : 36 ^ (22 - k) * part ≡ 36 ^ (33 - k) =
    ap (λ e. 36 ^ e * part) (less k few) ∙ power_in_parts (33 - k) (omega arith) in
    let same = apart n (36 ^ (22 - k)) ∙ ap (λ m. n * m) is in
    (same, omega (arith, same, share_within n k (omega arith) most))
  where
    less : (k : ℕ) → k ≤ 22 → 22 - k ≡ 33 - k - 11
    less k few = omega arith

    apart : (n p : ℕ) → n * p * part ≡ n * (p * part)
    apart n p = omega arith

-- two parts times a number, with what the lower one carries
pub parts_times : (u l f : ℕ) →
    (u * f + l * f / part) * part + l * f % part ≡ (u * part + l) * f
parts_times u l f = omega arith

-- a lower part times at most 36 ^ 10 has room in 128 bits
pub lower_fits : (l f : ℕ) → l < part → f ≤ 36 ^ 10 → l * f < 2 ^ 128
lower_fits l f low few =
    let under : l ≤ part = omega (arith, low) in
    let most : l * f ≤ part * 36 ^ 10 = mul-le-mul under few in
    omega (arith, most)

-- so has an upper part
pub upper_fits : (u l f : ℕ) → (u * part + l) * f ≤ 36 ^ 33 → u * f + l * f / part ≤ 36 ^ 22
upper_fits u l f most = omega (arith, parts_times u l f, most)

-- a product of two parts
pub ruleset of_parts_times = (parts_times, lower_fits, upper_fits)
