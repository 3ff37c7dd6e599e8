-- Fractions that a common factor was taken out of, and thousandths between the least and the
-- greatest that they can be.
use Prim.Native.Nat.{◌∣◌}
use Rattle.std.proofs.Common.{◌≡◌, ℕ, zero, suc, ◌+◌, ◌*◌, ◌%◌, ◌^◌, ◌<◌, ◌≤◌, map, refl, ap, ◌∙◌, arith, List, subst}
use Rattle.std.proofs.Common.{sym, add-one, ◌-◌, slice_index_or}
use Rattle.std.specs.Int.{IsGcd}
use Rattle.std.specs.List.{range_with_len}
use Rattle.std.proofs.lemmas.List.FromFn.{get_or-map-range_with_len}
use Rattle.std.proofs.Math.Nat.{le_of_mul-le-mul_left, le_of_dvd, mod-eq_of_lt, one-le-pow, pow-succ', mul-le-mul}
use Rattle.race_model.specs.Prelude.{whole, IsFraction, IsThousandths}
use Rattle.fixed_fraction.specs.Board.{board_whole, part}
use Rattle.fixed_fraction.specs.Ratios.{IsSmallRatio, IsDivided}
use Rattle.fixed_fraction.specs.declared.fraction.TheConstants.{POWERS_OF_THREE}
use Rattle.fixed_fraction.proofs.CommonFactors.{divided_positive, divided_twice, not_divided, product_divides}

-- numbers that a common factor was taken out of, in lowest terms, are the fraction
pub lowest_fraction : (a b n d : ℕ) → 0 < b → IsDivided a b n d → IsGcd n d 1 → IsFraction a b n d
lowest_fraction a b n d positive is lowest = record {
  same =
      let left : n * (is.factor * d) ≡ n * b = ap (λ m. n * m) is.under in
      let right : is.factor * n * d ≡ a * d = ap (λ m. m * d) is.over in
      omega (arith, left, right);
  positive = divided_positive a b n d is positive;
  lowest = lowest;
}

-- numbers equal to those that a common factor was taken out of are the fraction
pub fraction_is : (a b n d m e : ℕ) → 0 < b → IsDivided a b n d → IsGcd n d 1 → m ≡ n → e ≡ d →
    IsFraction a b m e
fraction_is a b n d m e positive is lowest over under =
    subst (λ k. IsFraction a b k e) (sym over)
    (subst (λ k. IsFraction a b n k) (sym under) (lowest_fraction a b n d positive is lowest))

-- a fraction over 36 ^ 22 is one over 36 ^ 33
pub over_board : (a b c e n d m k : ℕ) → a * part ≡ c → b * part ≡ e → IsFraction a b n d → m ≡ n →
    k ≡ d → IsFraction c e m k
over_board a b c e n d m k over under is numerator denominator =
    subst (λ j. IsFraction c e j k) (sym numerator)
    (subst (λ j. IsFraction c e n j) (sym denominator) (record {
      same = longer part over under;
      positive = is.positive;
      lowest = is.lowest;
    }))
  where
    longer : (p : ℕ) → a * p ≡ c → b * p ≡ e → n * e ≡ c * d
    longer p over under =
        let left : n * (b * p) ≡ n * e = ap (λ j. n * j) under in
        let right : a * p * d ≡ c * d = ap (λ j. j * d) over in
        let both : n * b * p ≡ a * d * p = ap (λ j. j * p) is.same in
        omega (arith, left, right, both)

-- 36 ^ 33 is that many times 36 ^ 22
pub whole_of_board : whole * part ≡ board_whole
unfolding whole
whole_of_board = omega arith

-- a numerator that is at most 180 stays so, divided
pub within_divided : (a b n d : ℕ) → 0 < b → a ≤ 180 * b → IsDivided a b n d → n ≤ 180 * d
within_divided a b n d positive within is = by_factor is.factor is.over is.under
  where
    by_factor : (g : ℕ) → g * n ≡ a → g * d ≡ b → n ≤ 180 * d
    by_factor zero over under = absurd (omega (arith, under))
    by_factor (suc g) over under =
        let scaled : suc g * n ≤ suc g * (180 * d) = omega (arith, over, under) in
        le_of_mul-le-mul_left scaled (omega arith)

-- numbers that a common factor was taken out of, in lowest terms, are a small ratio
pub small_fraction : (a b n d : ℕ) → 0 < b → a ≤ 180 * b → IsDivided a b n d → d ∣ 6 * whole →
    IsGcd n d 1 → IsSmallRatio (record { numerator = n; denominator = d })
unfolding whole
small_fraction a b n d positive within is divides lowest = record {
  positive = divided_positive a b n d is positive;
  short = le_of_dvd (omega arith) divides;
  within = within_divided a b n d positive within is;
  lowest = lowest;
}

-- powers, as they stand in a table, are at their places
pub power_at : (b n k : ℕ) (table : List ℕ) → table ≡ map (λ k. b ^ k) (range_with_len 0 n) →
    k < n → slice_index_or table k 0 ≡ b ^ k
power_at b n k table is few =
    ap (λ xs. slice_index_or xs k 0) is
    ∙ get_or-map-range_with_len (λ k. b ^ k) 0 n k k 0 few (omega arith)

-- the powers of three, as they stand in a table, are at their places
pub at_power : (k : ℕ) → k < 68 → slice_index_or POWERS_OF_THREE k 0 ≡ 3 ^ k
at_power k few = power_at 3 68 k POWERS_OF_THREE refl few

-- a product of threes and twos, no more of each than the greatest denominator has, fits 128 bits
pub no_bit_lost : (k s : ℕ) → k ≤ 45 → s ≤ 45 → 3 ^ k * 2 ^ s % 2 ^ 128 ≡ 3 ^ k * 2 ^ s
unfolding whole
no_bit_lost k s few few_twos = mod-eq_of_lt (omega (arith, most))
  where
    most : 3 ^ k * 2 ^ s ≤ 6 * whole
    most = le_of_dvd (omega arith) (product_divides k s few few_twos)

-- such a product is not zero
pub some_product : (k s : ℕ) → 0 < 3 ^ k * 2 ^ s
some_product k s =
    positive (3 ^ k) (2 ^ s) (one-le-pow k 3 (omega arith)) (one-le-pow s 2 (omega arith))
  where
    positive : (a b : ℕ) → 0 < a → 0 < b → 0 < a * b
    positive zero b none more = absurd (omega arith)
    positive (suc a) b some more = omega arith

-- a numerator over it that is at most 180, in lowest terms
pub small_ratio : (n k s : ℕ) → k ≤ 45 → s ≤ 45 → n ≤ 180 * (3 ^ k * 2 ^ s) →
    IsGcd n (3 ^ k * 2 ^ s) 1 →
    IsSmallRatio (record { numerator = n; denominator = 3 ^ k * 2 ^ s })
small_ratio n k s few few_twos within lowest =
    small_fraction n (3 ^ k * 2 ^ s) n (3 ^ k * 2 ^ s) (some_product k s) within
    (not_divided n (3 ^ k * 2 ^ s)) (product_divides k s few few_twos) lowest

-- the denominator of means and shares is not zero
pub some_whole : 0 < whole
unfolding whole
some_whole = omega arith

-- the denominator of effective pip counts is not zero
pub some_six : 0 < 6 * whole
unfolding whole
some_six = omega arith

-- at most 22 rolls are at most 180 of any kind
pub mean_within : (rolls : ℕ) → rolls ≤ 22 * whole → rolls ≤ 180 * whole
mean_within rolls few = omega arith

-- 49/6 of at most 22 rolls are at most 180 of any kind
pub epc_within : (rolls : ℕ) → rolls ≤ 22 * whole → 49 * rolls ≤ 180 * (6 * whole)
epc_within rolls few = omega arith

-- 49 times the numerator of at most 22 rolls, divided, fits 128 bits
pub numerator_fits : (rolls n d : ℕ) → rolls ≤ 22 * whole → IsDivided rolls whole n d →
    49 * n < 2 ^ 128
unfolding whole
numerator_fits rolls n d few is = by_factor is.factor is.over is.under
  where
    by_factor : (g : ℕ) → g * n ≡ rolls → g * d ≡ whole → 49 * n < 2 ^ 128
    by_factor zero over under = absurd (omega (arith, under))
    by_factor (suc g) over under =
        let less : n ≤ rolls = omega (arith, over) in
        omega (arith, less)

-- a mean's terms by 49 and by 6, and then divided, are those of its effective pip count, divided
pub scaled_divided : (rolls b n k s m e : ℕ) → IsDivided rolls b n (3 ^ k * 2 ^ s) →
    IsDivided (49 * n) (3 ^ (k + 1) * 2 ^ (s + 1)) m e → IsDivided (49 * rolls) (6 * b) m e
scaled_divided rolls b n k s m e first second =
    divided_twice (49 * rolls) (6 * b) (49 * n) (3 ^ (k + 1) * 2 ^ (s + 1)) m e
    (record {
      factor = first.factor;
      over = turned first.factor 49 n ∙ ap (λ l. 49 * l) first.over;
      under = ap (λ l. first.factor * l) six ∙ turned first.factor 6 (3 ^ k * 2 ^ s)
          ∙ ap (λ l. 6 * l) first.under;
    })
    second
  where
    turned : (f p n : ℕ) → f * (p * n) ≡ p * (f * n)
    turned f p n = omega arith

    product : (a b : ℕ) → 3 * a * (2 * b) ≡ 6 * (a * b)
    product a b = omega arith

    one_more : (p k : ℕ) → p ^ (k + 1) ≡ p * p ^ k
    one_more p k = ap (λ l. p ^ l) (add-one k) ∙ pow-succ' p k

    six : 3 ^ (k + 1) * 2 ^ (s + 1) ≡ 6 * (3 ^ k * 2 ^ s)
    six = ap (λ l. l * 2 ^ (s + 1)) (one_more 3 k) ∙ ap (λ l. 3 * 3 ^ k * l) (one_more 2 s)
        ∙ product (3 ^ k) (2 ^ s)

-- an odd multiple of a number and the number itself are an even one
pub odd_multiple : (d m : ℕ) → 0 < m → d * (2 * m - 1) + d ≡ 2 * m * d
odd_multiple d m some = one_more d (2 * m - 1) ∙ ap (λ e. e * d) (omega (arith, some))
  where
    one_more : (d e : ℕ) → d * e + d ≡ (e + 1) * d
    one_more d e = omega arith

-- such a multiple has room where the number is a denominator
pub multiple_fits : (d m : ℕ) → d ≤ 6 * board_whole → m ≤ 180000 → d * (2 * m - 1) < 2 ^ 192
multiple_fits d m short few = omega (arith, mul-le-mul short multiples)
  where
    multiples : 2 * m - 1 ≤ 359999
    multiples = omega (arith, few)

-- what is less than such a multiple rounds to less
pub rounds_below : (t d m : ℕ) → 0 < m → t < d * (2 * m - 1) → t + d < 2 * m * d
rounds_below t d m some less = omega (arith, less, odd_multiple d m some)

-- what is not less than such a multiple rounds to no less
pub rounds_above : (t d m : ℕ) → 0 < m → d * (2 * m - 1) ≤ t → 2 * m * d ≤ t + d
rounds_above t d m some within = omega (arith, within, odd_multiple d m some)

-- at first the thousandths are anything from 0 to 180,000
pub rounds_within : (n d t : ℕ) → t ≡ n * 2000 → 0 < d → n ≤ 180 * d → t + d < 2 * 180001 * d
rounds_within n d t is some within = omega (arith, is, some, within)

-- between two that follow each other is one alone
pub rounded : (n d t least over : ℕ) → t ≡ n * 2000 → 2 * least * d ≤ t + d →
    t + d < 2 * over * d → over ≡ least + 1 → IsThousandths n d least
rounded n d t least over is reached missed next = record {
  not_over = omega (arith, is, reached);
  not_under = omega (arith, is, cut);
}
  where
    next_multiple : (d q : ℕ) → 2 * (q + 1) * d ≡ (2 * q + 1) * d + d
    next_multiple d q = omega arith

    cut : t < (2 * least + 1) * d
    cut = omega (
      arith,
      subst (λ q. t + d < 2 * q * d) next missed,
      next_multiple d least,
    )
