-- Common factors: quotients by an inverse modulo 2 ^ 128, and what is left without twos and
-- threes.
use Prim.Native.Nat.{◌∣◌}
use Rattle.std.proofs.Common.{◌≡◌, ℕ, zero, suc, ◌+◌, ◌-◌, ◌*◌, ◌/◌, ◌%◌, ◌^◌, ◌<◌, ◌≤◌, ap, sym}
use Rattle.std.proofs.Common.{◌∙◌, subst, refl, arith, mul_assoc, min, ◌⊎◌, inl, inr}
use Rattle.std.specs.Int.{IsGcd, bit_at, trailing_zeros, w128}
use Rattle.std.proofs.lemmas.Nat.Bits.{bit_at-zero, bit_at-trailing_zeros}
use Rattle.std.proofs.lemmas.Nat.{mul-mod, mul-mod_second, mod-pow-add, le-div, pow-add}
use Rattle.std.proofs.Math.Nat.{mod-eq_of_lt, mul-div-le, mul-le-mul_left, mul-div_cancel'}
use Rattle.std.proofs.Math.Nat.{dvd-mul_left_of_dvd, mod-one, eq-or-lt_of_le, dvd_of_mod-eq-zero}
use Rattle.std.proofs.Math.Nat.{mod-eq-zero_of_dvd, dvd-mul_right, dvd_trans, one-dvd}
use Rattle.std.proofs.Math.Nat.{mul-mod_right, mod-lt, emod_pos_of_not-dvd, eq_of_mul-eq-mul_left}
use Rattle.std.proofs.Math.Nat.{pow-succ', pow-zero, one-mul, le_of_dvd}
use Rattle.race_model.specs.Prelude.{whole}
use Rattle.fixed_fraction.specs.Ratios.{IsDivided, AreApart}

-- the factors of a product in another order
swapped : (p m v : ℕ) → p * (m * v) ≡ m * (p * v)
swapped p m v = omega arith

-- the factors of a product in a third order
swapped_first : (p k v : ℕ) → p * k * v ≡ k * (p * v)
swapped_first p k v = omega arith

-- a number times a product that is one in a modulus is the number there
times_one : (k p v w : ℕ) → p * v % w ≡ 1 → k < w → k * (p * v) % w ≡ k
times_one k p v w inverse low =
    sym (mul-mod_second k (p * v) w)
    ∙ ap (λ n. k * n % w) inverse
    ∙ ap (λ n. n % w) (by_one k)
    ∙ mod-eq_of_lt low
  where
    by_one : (k : ℕ) → k * 1 ≡ k
    by_one k = omega arith

-- a number times the inverse of another, where the product with it stays within the modulus, is
-- the quotient
pub quotient_by_inverse : (m p v w : ℕ) → p * v % w ≡ 1 → m < w →
    m * v % w ≤ (w - 1) / p → p * (m * v % w) ≡ m
quotient_by_inverse m p v w inverse low few =
    sym (mod-eq_of_lt within)
    ∙ mul-mod_second p (m * v) w
    ∙ ap (λ n. n % w) (swapped p m v)
    ∙ times_one m p v w inverse low
  where
    within : p * (m * v % w) < w
    within =
        let most = mul-le-mul_left p few in
        let whole = mul-div-le (w - 1) p in
        omega (arith, most, whole)

-- the quotient of a multiple of the number by its inverse stays within the modulus
pub multiple_by_inverse : (k p v w : ℕ) → p * v % w ≡ 1 → 0 < p → p * k < w →
    p * k * v % w ≤ (w - 1) / p
multiple_by_inverse k p v w inverse some low =
    subst (λ n. n ≤ (w - 1) / p) (sym same) (le-div k (w - 1) p some (omega arith))
  where
    less : (p k : ℕ) → 0 < p → p * k < w → k < w
    less zero k none l = absurd (omega arith)
    less (suc p) k one l = omega arith

    same : p * k * v % w ≡ k
    same = ap (λ n. n % w) (swapped_first p k v) ∙ times_one k p v w inverse (less p k some low)

-- the quotient of a number that another divides, by the inverse
pub quotient_of_multiple : (m p v w : ℕ) → p * v % w ≡ 1 → m < w → p ∣ m →
    m * v % w ≤ (w - 1) / p
quotient_of_multiple m zero v w inverse low divides = absurd (none w inverse)
  where
    none : (w : ℕ) → ¬ (0 * v % w ≡ 1)
    none zero e = omega (arith, e)
    none (suc w) e = omega (arith, e)
quotient_of_multiple m (suc p) v w inverse low divides =
    let whole : suc p * (m / suc p) ≡ m = mul-div_cancel' (suc p) divides in
    subst (λ n. n * v % w ≤ (w - 1) / suc p) whole
    (multiple_by_inverse (m / suc p) (suc p) v w inverse (omega arith) (omega (arith, whole)))

-- nothing is taken out where nothing is divided
pub not_divided : (a b : ℕ) → IsDivided a b a b
not_divided a b = record { factor = 1; over = omega arith; under = omega arith }

-- divided by one number and then by another, two numbers are divided by the product
pub divided_twice : (a b n d m e : ℕ) → IsDivided a b n d → IsDivided n d m e → IsDivided a b m e
divided_twice a b n d m e first second = record {
  factor = first.factor * second.factor;
  over = product first.factor second.factor m n a second.over first.over;
  under = product first.factor second.factor e d b second.under first.under;
}
  where
    product : (f g m n a : ℕ) → g * m ≡ n → f * n ≡ a → f * g * m ≡ a
    product f g m n a inner outer = mul_assoc f g m ∙ ap (λ k. f * k) inner ∙ outer

-- what a positive number is divided to is positive
pub divided_positive : (a b n d : ℕ) → IsDivided a b n d → 0 < b → 0 < d
divided_positive a b n zero is some = absurd (omega (arith, is.under))
divided_positive a b n (suc d) is some = omega arith

-- a power times what is left of a greater one is that
power_left : (p t w : ℕ) → t ≤ w → p ^ t * p ^ (w - t) ≡ p ^ w
power_left p t w few = sym (pow-add p t (w - t)) ∙ ap (λ k. p ^ k) (whole_left t w few)
  where
    whole_left : (t w : ℕ) → t ≤ w → t + (w - t) ≡ w
    whole_left t w few = omega arith

-- a number whose lowest bits are zeros is a multiple of a power of two
low_zeros : (n t : ℕ) → ((i : ℕ) → i < t → bit_at n i ≡ 0) → n % 2 ^ t ≡ 0
low_zeros n zero zeros = mod-one n
low_zeros n (suc t) zeros =
    ap (λ k. n % 2 ^ k) more
    ∙ mod-pow-add n 1 t
    ∙ ap (λ m. m * 2 ^ t + n % 2 ^ t) (zeros t (omega arith))
    ∙ none (2 ^ t) (n % 2 ^ t)
    ∙ low_zeros n t (λ i low. zeros i (omega arith))
  where
    more : suc t ≡ 1 + t
    more = omega arith

    none : (a b : ℕ) → 0 * a + b ≡ b
    none a b = omega arith

-- each number with as many zeros at its end is a multiple of the power of two
zeros_divide : (n t : ℕ) → n < 2 ^ 128 → t ≤ trailing_zeros w128 n → 2 ^ t * (n / 2 ^ t) ≡ n
zeros_divide zero t low few =
    mul-div_cancel' (2 ^ t) (dvd_of_mod-eq-zero (2 ^ t) (low_zeros 0 t (λ i below. bit_at-zero i)))
zeros_divide (suc n) t low few =
    let lowest = bit_at-trailing_zeros w128 (suc n) (omega arith) low in
    mul-div_cancel' (2 ^ t) (dvd_of_mod-eq-zero (2 ^ t)
    (low_zeros (suc n) t (λ i below. lowest.2 i (omega arith))))

-- a number and a power of two divided by the power of two with as many zeros as the number has at
-- its end, where these are no more
pub twos_divided : (a w t : ℕ) → a < 2 ^ 128 → t ≡ min (trailing_zeros w128 a) w →
    IsDivided a (2 ^ w) (a / 2 ^ t) (2 ^ (w - t))
twos_divided a w t low is = record {
  factor = 2 ^ t;
  over = zeros_divide a t low (omega arith);
  under = power_left 2 t w (omega arith);
}

-- a number with as many zeros at its end as the power of two is odd after that
odd_after : (n : ℕ) → 0 < n → n < 2 ^ 128 → ¬ (2 ∣ n / 2 ^ trailing_zeros w128 n)
odd_after n some low even =
    let lowest = bit_at-trailing_zeros w128 n some low in
    omega (arith, lowest.1, mod-eq-zero_of_dvd 2 even)

-- a number above one divides not both of a number and its own power of zero
pub none_left : (p n k : ℕ) → 1 < p → k ≡ 0 → AreApart p n (p ^ k)
none_left p n k more none both =
    let one : p ∣ 1 = subst (λ m. p ∣ m) (ap (λ m. p ^ m) none ∙ pow-zero p) both.1 in
    omega (arith, le_of_dvd (omega arith) one)

-- a number without its zeros at the end and the other are not both even
pub twos_apart : (a w t : ℕ) → a < 2 ^ 128 → w < 128 → t ≡ min (trailing_zeros w128 a) w →
    AreApart 2 (a / 2 ^ t) (2 ^ (w - t))
unfolding lib.Count.count_trailing_zeros
twos_apart a w t low few is both = by_side (eq-or-lt_of_le within)
  where
    within : t ≤ w
    within = omega arith

    by_side : (t ≡ w) ⊎ (t < w) → ⊥
    by_side (inl e) = none_left 2 (a / 2 ^ t) (w - t) (omega arith) (omega arith) both
    by_side (inr l) = first a low is both.0 l
      where
        first : (a : ℕ) → a < 2 ^ 128 → t ≡ min (trailing_zeros w128 a) w → 2 ∣ a / 2 ^ t →
            t < w → ⊥
        first zero low is even l =
            let all : trailing_zeros w128 0 ≡ 128 = refl in omega (arith, all)
        first (suc a) low is even l =
            let same : t ≡ trailing_zeros w128 (suc a) = omega arith in
            odd_after (suc a) (omega arith) low (subst (λ n. 2 ∣ suc a / 2 ^ n) same even)

-- a product of rests is no multiple of a number unless the second is zero
abbrev RestsApart : ℕ → Type 0
RestsApart p = (r s : ℕ) → 0 < r → r < p → s < p → r * s % p ≡ 0 → s ≡ 0

-- a product of rests of two
rests_of_two : RestsApart 2
rests_of_two zero s some low small e = absurd (omega arith)
rests_of_two (suc zero) zero some low small e = refl
rests_of_two (suc zero) (suc zero) some low small e = absurd (omega (arith, e))
rests_of_two (suc zero) (suc (suc s)) some low small e = absurd (omega arith)
rests_of_two (suc (suc r)) s some low small e = absurd (omega arith)

-- a product of rests of three
rests_of_three : RestsApart 3
rests_of_three zero s some low small e = absurd (omega arith)
rests_of_three (suc zero) zero some low small e = refl
rests_of_three (suc zero) (suc zero) some low small e = absurd (omega (arith, e))
rests_of_three (suc zero) (suc (suc zero)) some low small e = absurd (omega (arith, e))
rests_of_three (suc zero) (suc (suc (suc s))) some low small e = absurd (omega arith)
rests_of_three (suc (suc zero)) zero some low small e = refl
rests_of_three (suc (suc zero)) (suc zero) some low small e = absurd (omega (arith, e))
rests_of_three (suc (suc zero)) (suc (suc zero)) some low small e = absurd (omega (arith, e))
rests_of_three (suc (suc zero)) (suc (suc (suc s))) some low small e = absurd (omega arith)
rests_of_three (suc (suc (suc r))) s some low small e = absurd (omega arith)

-- a divisor of a product with such a number that is no multiple of it divides the other factor
divides_other : (p g m : ℕ) → RestsApart p → 0 < p → ¬ (p ∣ g) → g ∣ p * m → g ∣ m
divides_other p g m rests some apart divides =
    subst (λ n. g ∣ n) (sym (eq_of_mul-eq-mul_left p some m (g * (k / p)) same))
    (dvd-mul_right g (k / p))
  where
    k : ℕ
    k = p * m / g

    whole : g * k ≡ p * m
    whole = mul-div_cancel' g divides

    none : k % p ≡ 0
    none = rests (g % p) (k % p) (emod_pos_of_not-dvd p apart) (mod-lt g some) (mod-lt k some)
        (sym (mul-mod g k p) ∙ ap (λ n. n % p) whole ∙ mul-mod_right p m)

    part : p * (k / p) ≡ k
    part = mul-div_cancel' p (dvd_of_mod-eq-zero p none)

    same : p * m ≡ p * (g * (k / p))
    same = sym whole ∙ ap (λ n. g * n) (sym part) ∙ swapped g p (k / p)

-- a divisor of a product with a power of such a number divides the other factor
divides_rest : (p g n m : ℕ) → RestsApart p → 0 < p → ¬ (p ∣ g) → g ∣ p ^ n * m → g ∣ m
divides_rest p g zero m rests some apart divides = subst (λ k. g ∣ k) (one m) divides
  where
    one : (m : ℕ) → p ^ 0 * m ≡ m
    one m = ap (λ k. k * m) (pow-zero p) ∙ one-mul m
divides_rest p g (suc n) m rests some apart divides =
    divides_rest p g n m rests some apart
    (divides_other p g (p ^ n * m) rests some apart
    (subst (λ k. g ∣ k) (ap (λ k. k * m) (pow-succ' p n) ∙ mul_assoc p (p ^ n) m) divides))

-- the greatest denominator is a product of twos and threes
factors : 6 * whole ≡ 2 ^ 45 * (3 ^ 45 * 1)
unfolding whole
factors = refl

-- a number and a product of threes and twos of which neither two nor three divides both are in
-- lowest terms
lowest_without : (n k s : ℕ) → AreApart 2 n (3 ^ k * 2 ^ s) → AreApart 3 n (3 ^ k * 2 ^ s) →
    IsGcd n (3 ^ k * 2 ^ s) 1
lowest_without n k s twos threes = (
  one-dvd n,
  one-dvd (3 ^ k * 2 ^ s),
  λ g p q.
      divides_rest 2 g s 1 rests_of_two (omega arith)
      (λ two. twos (dvd_trans 2 two p, dvd_trans 2 two q))
      (subst (λ m. g ∣ m) (one (2 ^ s))
      (divides_rest 3 g k (2 ^ s) rests_of_three (omega arith)
      (λ three. threes (dvd_trans 3 three p, dvd_trans 3 three q)) q)),
)
  where
    one : (m : ℕ) → m ≡ m * 1
    one m = omega arith

-- three divides not both of a number and a product of threes and twos, where it divides not both of
-- the number and the threes, and two likewise
apart_of_product : (n k s : ℕ) → AreApart 3 n (3 ^ k) → AreApart 2 n (2 ^ s) →
    AreApart 3 n (3 ^ k * 2 ^ s) × AreApart 2 n (3 ^ k * 2 ^ s)
apart_of_product n k s threes twos = (
  λ both. threes (
    both.0,
    divides_rest 2 3 s (3 ^ k) rests_of_two (omega arith) odd
        (subst (λ m. 3 ∣ m) (turned (3 ^ k) (2 ^ s)) both.1),
  ),
  λ both. twos (
    both.0,
    divides_rest 3 2 k (2 ^ s) rests_of_three (omega arith) no_three both.1,
  ),
)
  where
    turned : (a b : ℕ) → a * b ≡ b * a
    turned a b = omega arith

    odd : ¬ (2 ∣ 3)
    odd even = omega (arith, mod-eq-zero_of_dvd 2 even)

    no_three : ¬ (3 ∣ 2)
    no_three three = omega (arith, mod-eq-zero_of_dvd 3 three)

-- a product of no more threes and twos than the greatest denominator has divides it
pub product_divides : (k s : ℕ) → k ≤ 45 → s ≤ 45 → 3 ^ k * 2 ^ s ∣ 6 * whole
product_divides k s few few_twos =
    subst (λ m. 3 ^ k * 2 ^ s ∣ m) all
    (dvd-mul_right (3 ^ k * 2 ^ s) (3 ^ (45 - k) * 2 ^ (45 - s)))
  where
    crossed : (a b c d : ℕ) → a * b * (c * d) ≡ a * c * (b * d)
    crossed a b c d = omega arith

    last : (a b : ℕ) → a * b ≡ b * (a * 1)
    last a b = omega arith

    all : 3 ^ k * 2 ^ s * (3 ^ (45 - k) * 2 ^ (45 - s)) ≡ 6 * whole
    all =
        crossed (3 ^ k) (2 ^ s) (3 ^ (45 - k)) (2 ^ (45 - s))
        ∙ ap (λ m. m * (2 ^ s * 2 ^ (45 - s))) (power_left 3 k 45 few)
        ∙ ap (λ m. 3 ^ 45 * m) (power_left 2 s 45 few_twos)
        ∙ last (3 ^ 45) (2 ^ 45)
        ∙ sym factors

-- terms that the threes, and then the twos, were taken out of are lowest
pub lowest_taken_out : (m b n e k s : ℕ) → AreApart 3 m (3 ^ k) → IsDivided m b n e →
    AreApart 2 n (2 ^ s) → IsGcd n (3 ^ k * 2 ^ s) 1
lowest_taken_out m b n e k s threes less twos =
    let apart = apart_of_product n k s
    (λ both. threes (
      subst (λ a. 3 ∣ a) less.over (dvd-mul_left_of_dvd 3 both.0 less.factor),
      both.1,
    )) twos in
    lowest_without n k s apart.1 apart.0

-- divided with one factor of a product, and then with the other
pub divided_by_both : (a b c n d m e : ℕ) → IsDivided a b n d → IsDivided n c m e →
    IsDivided a (b * c) m (d * e)
divided_by_both a b c n d m e first second = record {
  factor = first.factor * second.factor;
  over = mul_assoc first.factor second.factor m ∙ ap (λ k. first.factor * k) second.over
      ∙ first.over;
  under = crossed first.factor second.factor d e
      ∙ ap (λ k. k * (second.factor * e)) first.under ∙ ap (λ k. b * k) second.under;
}
  where
    crossed : (f g d e : ℕ) → f * g * (d * e) ≡ f * d * (g * e)
    crossed f g d e = omega arith

-- a number that becomes small enough by the inverse of a power, and a greater power of the same,
-- are divided by it
pub divided_by_power : (p power inverse m count left all : ℕ) → power ≡ p ^ count →
    power * inverse % 2 ^ 128 ≡ 1 → m < 2 ^ 128 →
    m * inverse % 2 ^ 128 ≤ (2 ^ 128 - 1) / power → left + count ≡ all →
    IsDivided m (p ^ all) (m * inverse % 2 ^ 128) (p ^ left)
divided_by_power p power inverse m count left all is one low few whole = record {
  factor = power;
  over = quotient_by_inverse m power inverse (2 ^ 128) one low few;
  under = ap (λ k. k * p ^ left) is ∙ sym (pow-add p count left) ∙ ap (λ k. p ^ k) turned;
}
  where
    turned : count + left ≡ all
    turned = omega (arith, whole)

-- what is divided over the threes and the twos of 36 ^ 22, after a division over the threes alone,
-- is divided over that
pub divided_over_whole : (a n k s m e : ℕ) → s ≡ 44 → IsDivided a (3 ^ 44) n (3 ^ k) →
    IsDivided n (3 ^ k * 2 ^ s) m e → IsDivided a whole m e
unfolding whole
divided_over_whole a n k s m e all first second = record {
  factor = first.factor * second.factor;
  over = mul_assoc first.factor second.factor m ∙ ap (λ l. first.factor * l) second.over
      ∙ first.over;
  under = mul_assoc first.factor second.factor e ∙ ap (λ l. first.factor * l) second.under
      ∙ sym (mul_assoc first.factor (3 ^ k) (2 ^ s)) ∙ ap (λ l. l * 2 ^ s) first.under
      ∙ ap (λ l. 3 ^ 44 * 2 ^ l) all ∙ whole_factors;
}
  where
    whole_factors : 3 ^ 44 * 2 ^ 44 ≡ whole
    whole_factors = refl

-- a number that another divides, and a power of that, divided by it
pub divided_once : (m p k : ℕ) → m % p ≡ 0 → 0 < k → IsDivided m (p ^ k) (m / p) (p ^ (k - 1))
divided_once m p k none some = record {
  factor = p;
  over = mul-div_cancel' p (dvd_of_mod-eq-zero p none);
  under = sym (pow-succ' p (k - 1)) ∙ ap (λ j. p ^ j) (next k some);
}
  where
    next : (k : ℕ) → 0 < k → suc (k - 1) ≡ k
    next k some = omega arith

-- what leaves a rest divides not both of a number and another one
pub rest_apart : (p n d : ℕ) → ¬ (n % p ≡ 0) → AreApart p n d
rest_apart p n d rest both = rest (mod-eq-zero_of_dvd p both.0)

-- twos taken out: what is left, and that no more can be
pub ruleset by_twos = (twos_divided, twos_apart)

-- threes taken out, one factor after another
pub ruleset by_threes = (divided_twice, none_left)

-- a quotient by an inverse, and where there is none
pub ruleset by_power = (divided_by_power, quotient_of_multiple)

-- a factor taken out of what is left, as often as it divides
pub ruleset by_steps = (divided_once, divided_twice, none_left, rest_apart)
