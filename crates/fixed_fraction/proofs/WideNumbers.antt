-- Products and quotients of numbers of three words.
use Rattle.std.proofs.Common.{◌≡◌, ℕ, ◌+◌, ◌*◌, ◌/◌, ◌%◌, ◌^◌, ◌<◌, ◌≤◌, ◌-◌, arith, sym, ap, ◌∙◌}
use Rattle.std.proofs.Math.Nat.{mul-add-div_right, mul-add-mod_self_right, mul-le-mul_left}
use Rattle.std.proofs.Math.Nat.{pow-le-pow_right, one-le-pow}
use Rattle.std.proofs.Math.Nat.{div-div-eq-div-mul, mul-div-mul_right}
use Rattle.std.proofs.lemmas.Nat.{div-add-mod', pow-add}

-- a word, of which three are a number
abbrev pub word : ℕ
word = 2 ^ 64

-- a number in three words times another, with the carries
words_times : (h a b f : ℕ) →
    (h * f + (a * f + b * f / word) / word) * 2 ^ 128
    + ((a * f + b * f / word) % word * word + b * f % word)
    ≡ (h * 2 ^ 128 + (a * word + b)) * f
words_times h a b f = omega arith

-- a number in three words times another, of which the lower two are one number
pub wide_times : (h l f : ℕ) →
    (h * f + (l / word * f + l % word * f / word) / word) * 2 ^ 128
    + ((l / word * f + l % word * f / word) % word * word + l % word * f % word)
    ≡ (h * 2 ^ 128 + l) * f
wide_times h l f =
    words_times h (l / word) (l % word) f
    ∙ ap (λ n. (h * 2 ^ 128 + n) * f) (div-add-mod' l word)

-- the highest word of a number has room where the number has
pub high_fits : (h r n : ℕ) → h * 2 ^ 128 + r ≡ n → n < 2 ^ 192 → h < 2 ^ 64
high_fits h r n is less = omega (arith, is, less)

-- a number, cut into a quotient and a rest, and a word behind it
rest_and_word : (x y b : ℕ) → x / b * word * b + (x % b * word + y) ≡ x * word + y
rest_and_word x y b = grouped (x / b) (x % b) y b ∙ ap (λ n. n * word + y) (div-add-mod' x b)
  where
    grouped : (q r y b : ℕ) → q * word * b + (r * word + y) ≡ (q * b + r) * word + y
    grouped q r y b = omega arith

-- one step of a long division
step_quotient : (x y b : ℕ) → 0 < b → x / b * word + (x % b * word + y) / b ≡ (x * word + y) / b
step_quotient x y b some =
    sym (mul-add-div_right some (x / b * word) (x % b * word + y))
    ∙ ap (λ n. n / b) (rest_and_word x y b)

-- the rest of one step of a long division
step_rest : (x y b : ℕ) → (x % b * word + y) % b ≡ (x * word + y) % b
step_rest x y b =
    sym (mul-add-mod_self_right (x / b * word) b (x % b * word + y))
    ∙ ap (λ n. n % b) (rest_and_word x y b)

-- the words of a number
words : (h l : ℕ) → (h * word + l / word) * word + l % word ≡ h * 2 ^ 128 + l
words h l = omega arith

-- the rest of a long division
pub wide_rest : (h l b : ℕ) →
    ((h % b * word + l / word) % b * word + l % word) % b ≡ (h * 2 ^ 128 + l) % b
wide_rest h l b =
    ap (λ (r : ℕ). (r * word + l % word) % b) (step_rest h (l / word) b)
    ∙ step_rest (h * word + l / word) (l % word) b
    ∙ ap (λ (n : ℕ). n % b) (words h l)

-- the quotient of a long division
pub wide_quotient : (h l b : ℕ) → 0 < b →
    h / b * 2 ^ 128
    + ((h % b * word + l / word) / b * word
    + ((h % b * word + l / word) % b * word + l % word) / b)
    ≡ (h * 2 ^ 128 + l) / b
wide_quotient h l b some =
    joined (h / b) ((h % b * word + l / word) / b) _ ((h * word + l / word) / b)
    ((h * 2 ^ 128 + l) / b)
    (step_quotient h (l / word) b some)
    (ap (λ (r : ℕ). (h * word + l / word) / b * word + (r * word + l % word) / b)
    (step_rest h (l / word) b)
    ∙ step_quotient (h * word + l / word) (l % word) b some
    ∙ ap (λ (n : ℕ). n / b) (words h l))
  where
    joined : (q p z t n : ℕ) → q * word + p ≡ t → t * word + z ≡ n →
        q * 2 ^ 128 + (p * word + z) ≡ n
    joined q p z t n e f = omega (arith, e, f)

-- a number times so many twos, in its highest word and those below
pub wide_doubled : (n s : ℕ) → s ≤ 127 →
    n / 2 / 2 ^ (127 - s) * 2 ^ 128 + n * 2 ^ s % 2 ^ 128 ≡ n * 2 ^ s
wide_doubled n s few =
    ap (λ h. h * 2 ^ 128 + n * 2 ^ s % 2 ^ 128) high ∙ div-add-mod' (n * 2 ^ s) (2 ^ 128)
  where
    words_of : 2 * 2 ^ (127 - s) * 2 ^ s ≡ 2 ^ 128
    words_of =
        let all : 127 - s + s ≡ 127 = omega arith in
        let half : 2 ^ (127 - s) * 2 ^ s ≡ 2 ^ 127 = sym (pow-add 2 (127 - s) s)
        ∙ ap (λ k. 2 ^ k) all in
        twice (2 ^ (127 - s)) (2 ^ s) half
      where
        twice : (a b : ℕ) → a * b ≡ 2 ^ 127 → 2 * a * b ≡ 2 ^ 128
        twice a b is = omega (arith, is)

    high : n / 2 / 2 ^ (127 - s) ≡ n * 2 ^ s / 2 ^ 128
    high = div-div-eq-div-mul n 2 (2 ^ (127 - s))
        ∙ sym (mul-div-mul_right n (2 * 2 ^ (127 - s)) (one-le-pow s 2 (omega arith)))
        ∙ ap (λ w. n * 2 ^ s / w) words_of

-- a product of threes and twos, no more of each than the greatest denominator has, has room
pub powers_fit : (k s : ℕ) → k ≤ 67 → s ≤ 67 → 3 ^ k * 2 ^ s < 2 ^ 192
powers_fit k s few few_twos = omega (
  arith,
  mul-le-mul_left (3 ^ k) (pow-le-pow_right {n = 2} (omega arith) few_twos),
  pow-le-pow_right {n = 3} (omega arith) few,
)

-- a product, which fits three words
pub ruleset of_times = (wide_times, high_fits)

-- a number doubled so many times
pub ruleset of_doubled = (high_fits, wide_doubled)

-- a quotient, and its rest
pub ruleset of_divided = (wide_quotient, wide_rest)
