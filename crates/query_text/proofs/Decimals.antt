-- Numbers in decimal, written in two parts or three.
use Rattle.std.proofs.Common.{◌≡◌, ◌⊎◌, inl, inr, ℕ, zero, suc, ◌+◌, ◌*◌, ◌/◌, ◌%◌, ◌^◌, ◌<◌, ◌≤◌, [], ◌∷◌, ◌++◌}
use Rattle.std.proofs.Common.{length, drop, ap, sym, ◌∙◌, arith, append_assoc, length-append, decimal}
use Rattle.std.proofs.lemmas.Bool.{cases_lt}
use Rattle.std.proofs.lemmas.Fmt.{decimal_step_wide, decimal_digit}
use Rattle.std.proofs.lemmas.List.{append-nil, drop-append-le}
use Rattle.std.proofs.Math.Nat.{pow-succ', pow-zero, one-le-pow}

-- a number has a digit
pub some_digit : (n : ℕ) → n < 10 ^ 64 → 1 ≤ length (decimal n)
some_digit n low = by_size (cases_lt n 10)
  where
    by_size : (n < 10) ⊎ (10 ≤ n) → 1 ≤ length (decimal n)
    by_size (inl one) = omega (arith, ap length (decimal_digit n one))
    by_size (inr more) = omega (
      arith,
      ap length (decimal_step_wide n more low),
      length-append (decimal (n / 10)) ((48 + n % 10) ∷ []),
    )

-- the digits of ten times a number and a rest are those of the number and of the rest's tens, and
-- then the rest's last
last_digit : (n x rest : ℕ) → n ≡ 10 * x + rest → 0 < x → n < 10 ^ 64 →
    decimal n ≡ decimal (x + rest / 10) ++ (48 + rest % 10) ∷ []
last_digit n x rest e some low =
    decimal_step_wide n (omega (arith, e)) low
    ∙ ap (λ m. decimal m ++ (48 + n % 10) ∷ []) front
    ∙ ap (λ d. decimal (x + rest / 10) ++ (48 + d) ∷ []) last
  where
    front : n / 10 ≡ x + rest / 10
    front = omega (arith, e)

    last : n % 10 ≡ rest % 10
    last = omega (arith, e)

-- a number times a positive one is no smaller
le_more : (p h : ℕ) → 0 < h → p ≤ h * p
le_more p zero none = absurd (omega arith)
le_more p (suc h) one = omega arith

-- ten times a factor is ten times the product
ten_times : (h p r : ℕ) → h * (10 * p) + r ≡ 10 * (h * p) + r
ten_times h p r = omega arith

-- a tenth of a number below ten times another is below that
tenth : (r p q : ℕ) → q ≡ 10 * p → r < q → r / 10 < p
tenth r p q ten few = omega arith

-- the digits of a number are those of its front, and then its last k, which are the digits of the
-- same k after a one
pub two_parts : (k high rest : ℕ) → 0 < high → rest < 10 ^ k → k < 64 →
    high * 10 ^ k + rest < 10 ^ 64 →
    decimal (high * 10 ^ k + rest) ≡ decimal high ++ drop 1 (decimal (10 ^ k + rest))
two_parts zero high rest some few short low =
    ap decimal whole
    ∙ sym (append-nil (decimal high))
    ∙ ap (λ t. decimal high ++ drop 1 t)
    (sym (ap decimal one ∙ decimal_digit 1 (omega arith)))
  where
    none : rest ≡ 0
    none = omega (arith, pow-zero 10)

    whole : high * 10 ^ 0 + rest ≡ high
    whole = ap (λ p. high * p + rest) (pow-zero 10) ∙ omega (arith, none)

    one : 10 ^ 0 + rest ≡ 1
    one = omega (arith, pow-zero 10, none)
two_parts (suc k) high rest some few short low =
    last_digit (high * 10 ^ suc k + rest) (high * 10 ^ k) rest whole front low
    ∙ ap (λ t. t ++ (48 + rest % 10) ∷ [])
    (two_parts k high (rest / 10) some (tenth rest (10 ^ k) (10 ^ suc k) ten few) (omega arith)
    (omega (arith, whole, low)))
    ∙ append_assoc (decimal high) (drop 1 (decimal (10 ^ k + rest / 10))) ((48 + rest % 10) ∷ [])
    ∙ ap (λ t. decimal high ++ t)
    (sym (drop-append-le 1 (decimal (10 ^ k + rest / 10)) ((48 + rest % 10) ∷ [])
    (some_digit (10 ^ k + rest / 10) (omega (arith, least, whole, low)))))
    ∙ ap (λ t. decimal high ++ drop 1 t)
    (sym (last_digit (10 ^ suc k + rest) (10 ^ k) rest (omega (arith, ten)) power
    (omega (arith, least, ten, whole, low))))
  where
    ten : 10 ^ suc k ≡ 10 * 10 ^ k
    ten = pow-succ' 10 k

    power : 0 < 10 ^ k
    power = one-le-pow k 10 (omega arith)

    least : 10 ^ k ≤ high * 10 ^ k
    least = le_more (10 ^ k) high some

    front : 0 < high * 10 ^ k
    front = omega (arith, least, power)

    whole : high * 10 ^ suc k + rest ≡ 10 * (high * 10 ^ k) + rest
    whole = ap (λ p. high * p + rest) ten ∙ ten_times high (10 ^ k) rest

-- the last three digits of a number are those after a one of the thousand and its rest
pub three_digits : (n : ℕ) → drop 1 (decimal (1000 + n % 1000))
    ≡ (48 + n / 100 % 10) ∷ (48 + n / 10 % 10) ∷ (48 + n % 10) ∷ []
three_digits n =
    ap (λ t. drop 1 t)
    (step (1000 + n % 1000) (100 + n / 10 % 100) (n % 10) (omega arith) (omega arith) (omega arith)
    ∙ ap (λ t. t ++ (48 + n % 10) ∷ [])
    (step (100 + n / 10 % 100) (10 + n / 100 % 10) (n / 10 % 10) (omega arith) (omega arith)
    (omega arith)
    ∙ ap (λ t. t ++ (48 + n / 10 % 10) ∷ [])
    (step (10 + n / 100 % 10) 1 (n / 100 % 10) (omega arith) (omega arith) (omega arith)
    ∙ ap (λ t. t ++ (48 + n / 100 % 10) ∷ []) (decimal_digit 1 (omega arith)))))
  where
    none : (m : ℕ) → m < 10 → m / 10 ≡ 0
    none m few = omega arith

    same : (m : ℕ) → m < 10 → m % 10 ≡ m
    same m few = omega arith

    zeros : (m : ℕ) → m + 0 ≡ m
    zeros m = omega arith

    step : (m front last : ℕ) → m ≡ 10 * front + last → last < 10 → (0 < front) × (m < 10000) →
        decimal m ≡ decimal front ++ (48 + last) ∷ []
    step m front last e few some =
        let low : m < 10 ^ 64 = omega (arith, some.1) in
        last_digit m front last e some.0 low
        ∙ ap (λ k. decimal (front + k) ++ (48 + last % 10) ∷ []) (none last few)
        ∙ ap (λ k. decimal k ++ (48 + last % 10) ∷ []) (zeros front)
        ∙ ap (λ k. decimal front ++ (48 + k) ∷ []) (same last few)

-- the digits of a number are those of its front and then its last 18
pub front_and_18 : (number front rest : ℕ) → front * 10 ^ 18 + rest ≡ number → 0 < front →
    rest < 10 ^ 18 → number < 10 ^ 58 →
    decimal number ≡ decimal front ++ drop 1 (decimal (10 ^ 18 + rest))
front_and_18 number front rest whole some few short =
    ap decimal (sym whole) ∙ two_parts 18 front rest some few (omega arith)
    (omega (arith, whole, short))

-- the digits of a longer number are those of its front, the 18 after it, and the last 18
pub front_and_36 : (number front middle rest : ℕ) →
    front * 10 ^ 36 + middle * 10 ^ 18 + rest ≡ number → 0 < front → middle < 10 ^ 18 →
    rest < 10 ^ 18 → number < 10 ^ 58 →
    decimal number
    ≡ (decimal front ++ drop 1 (decimal (10 ^ 18 + middle))) ++ drop 1 (decimal (10 ^ 18 + rest))
front_and_36 number front middle rest whole some mid few short =
    front_and_18 number (front * 10 ^ 18 + middle) rest (omega (arith, whole))
    (omega (arith, some)) few short
    ∙ ap (λ t. t ++ drop 1 (decimal (10 ^ 18 + rest)))
    (front_and_18 (front * 10 ^ 18 + middle) front middle (omega arith) some mid
    (omega (arith, whole, short)))
