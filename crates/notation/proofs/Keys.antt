-- Counts that are read off the bits of a number.
use Rattle.std.proofs.Common.{◌≡◌, ◌≢◌, ℕ, zero, suc, ◌+◌, ◌-◌, ◌*◌, ◌/◌, ◌%◌, ◌^◌, ◌<◌, ◌≤◌}
use Rattle.std.proofs.Common.{List, [], ◌∷◌, ◌++◌, length, refl, sym, ap, ◌∙◌, arith}
use Rattle.std.proofs.Math.Nat.{pow-succ'}
use Rattle.std.proofs.Math.Pow.{pow_mono}
use Rattle.notation.specs.Ids.{ones, key}
use Rattle.notation.specs.Letters.{bit, field}

-- the number of fewer bits
half_power : (n : ℕ) → n ≢ 0 → 2 ^ n ≡ 2 * 2 ^ (n - 1)
half_power zero some = absurd (some refl)
half_power (suc k) some =
    let same : suc k - 1 ≡ k = omega arith in
    pow-succ' 2 k ∙ ap (λ m. 2 * 2 ^ m) (sym same)

-- a bit and the double of a number of fewer bits
pub bit_and_more : (n b f : ℕ) → n ≢ 0 → b < 2 → f < 2 ^ (n - 1) → b + 2 * f < 2 ^ n
bit_and_more n b f some low less = omega (arith, less, half_power n some)

-- where there are at most 80 bits
pub bit_and_few : (n b f : ℕ) → n ≢ 0 → n ≤ 80 → b < 2 → f < 2 ^ (n - 1) → b + 2 * f < 2 ^ 80
bit_and_few n b f some few low less =
    omega (arith, bit_and_more n b f some low less, pow_mono {i = n} {j = 80} few)

-- the bits above an odd number's lowest one
pub half : (n w : ℕ) → n < 2 ^ w → n % 2 ≢ 0 → (0 < w) × (n / 2 < 2 ^ (w - 1))
half n zero low odd = absurd (odd (omega (arith, low)))
half n (suc w) low odd = (omega arith, omega (arith, low, half_power (suc w) (λ e. cc)))

-- one more bit of a field
pub field_more : (text : List ℕ) (first n : ℕ) → n ≢ 0 →
    bit text first + 2 * field text (first + 1) (n - 1) ≡ field text first n
field_more text first zero some = absurd (some refl)
field_more text first (suc n) some =
    let same : suc n - 1 ≡ n = omega arith in
    ap (λ m. bit text first + 2 * field text (first + 1) m) same

-- one more count
pub key_push : (counts : List ℕ) (n above : ℕ) →
    key (counts ++ n ∷ []) above ≡ key counts (ones n above)
key_push [] n above = refl
key_push (c ∷ cs) n above = ap (ones c) (key_push cs n above)

-- a number has one lowest zero
ones_same : (m n a b : ℕ) → ones m a ≡ ones n b → (m ≡ n) × (a ≡ b)
ones_same zero zero a b e = (refl, omega (arith, e))
ones_same zero (suc n) a b e = absurd (omega (arith, e))
ones_same (suc m) zero a b e = absurd (omega (arith, e))
ones_same (suc m) (suc n) a b e =
    let h = ones_same m n a b (omega (arith, e)) in (ap suc h.0, h.1)

-- as many counts of one number are the same
pub key_same : (xs ys : List ℕ) (a b : ℕ) → length xs ≡ length ys → key xs a ≡ key ys b →
    (xs ≡ ys) × (a ≡ b)
key_same [] [] a b long e = (refl, e)
key_same [] (y ∷ ys) a b long e = absurd (omega (arith, long))
key_same (x ∷ xs) [] a b long e = absurd (omega (arith, long))
key_same (x ∷ xs) (y ∷ ys) a b long e =
    let first = ones_same x y (key xs a) (key ys b) e in
    let rest = key_same xs ys a b (omega (arith, long)) first.1 in
    (ap (λ n. n ∷ xs) first.0 ∙ ap (λ ns. y ∷ ns) rest.0, rest.1)
