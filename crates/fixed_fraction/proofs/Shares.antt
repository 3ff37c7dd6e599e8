-- Sums of shares, by rolls and by parts, and how large the sum of a pull may be.
use Rattle.std.proofs.Common.{◌≡◌, ℕ, zero, suc, ◌+◌, ◌*◌, ◌<◌, ◌≤◌, List, [], ◌∷◌, sum, sum_by, take, length, get_or}
use Rattle.std.proofs.Common.{All, refl, ap, sym, ◌∙◌, arith, add-one, ◌^◌, slice_index, below_more, get_or-set_other}
use Rattle.std.proofs.Common.{slice_set}
use Rattle.std.proofs.lemmas.Grind.{get_or-set_at}
use Rattle.std.proofs.lemmas.List.{take_all}
use Rattle.std.proofs.lemmas.List.Sums.{sum_by-cons, sum_by_more, sum_by_more_le}
use Rattle.std.proofs.lemmas.List.Elements.{All-head, All-tail}
use Rattle.race_model.specs.Prelude.{whole}
use Rattle.fixed_fraction.specs.Totals.{weighted_share}
use Rattle.std.proofs.Math.Nat.{mul-le-mul_left}

-- one more part keeps the bound by the weights
pub part_small : (total weight part sum next most base : ℕ) → part ≤ most → next ≡ sum + weight →
    total ≤ base + sum * most → total + weight * part ≤ base + next * most
part_small total weight part sum next most base h e t =
    rw e (omega (arith, mul-le-mul_left weight h))

-- the parts of a sum, each with its weight, up to the next one
module _ {A : Type 0} (parts : List (ℕ × A)) (i : ℕ) (part : ℕ × A) (lt : i < length parts) where
  -- the next part keeps the bound by the weights
  pub next_small : (total value most base : ℕ) → value ≤ most →
      total ≤ base + sum_by (λ p. p.0) (take i parts) * most →
      total + (get_or parts i part).0 * value
      ≤ base + sum_by (λ p. p.0) (take (i + 1) parts) * most
  next_small total value most base h t =
      part_small total (get_or parts i part).0 value _ _ most base h
      (sum_by_more (λ (p : ℕ × A). p.0) parts i part lt) t

  -- weights that add up to 36 keep the sum within 128 bits
  pub sum_fits : (total : ℕ) → sum_by (λ p. p.0) parts ≡ 36 →
      total ≤ 36 * whole + sum_by (λ p. p.0) (take (i + 1) parts) * (22 * whole) →
      total < 2 ^ 128
  unfolding whole
  sum_fits total all t =
      omega (
        arith,
        sum_by_more (λ (p : ℕ × A). p.0) parts i part lt,
        sum_by_more_le (λ (p : ℕ × A). p.0) parts i part lt,
      )

-- the literal of the code is the denominator
pub whole_is : 623673825204293256669089197883129856 ≡ 36 * whole
unfolding whole
whole_is = refl

-- no share is more than all of them together
pub share_at_most_sum : (xs : List ℕ) (k : ℕ) → get_or xs k 0 ≤ sum xs
share_at_most_sum [] k = omega arith
share_at_most_sum (x ∷ xs) zero = omega (arith, sum_by-cons (λ y. y) x xs)
share_at_most_sum (x ∷ xs) (suc k) =
    omega (arith, sum_by-cons (λ y. y) x xs, share_at_most_sum xs k)

-- the sum of the numbers below n
abbrev pub sum_upto : ℕ → (ℕ → ℕ) → ℕ
sum_upto zero g = 0
sum_upto (suc n) g = sum_upto n g + g n

-- sums of equal numbers are equal
pub sum_upto-same : (n : ℕ) (f g : ℕ → ℕ) → ((k : ℕ) → k < n → f k ≡ g k) →
    sum_upto n f ≡ sum_upto n g
sum_upto-same zero f g h = refl
sum_upto-same (suc n) f g h =
    omega (arith, sum_upto-same n f g (λ k lt. h k (omega arith)), h n (omega arith))

-- a sum of zeros is zero
pub sum_upto-zero : (n : ℕ) → sum_upto n (λ k. 0) ≡ 0
sum_upto-zero zero = refl
sum_upto-zero (suc n) = omega (arith, sum_upto-zero n)

-- a sum of multiples and others
pub sum_upto-linear : (n w : ℕ) (f g : ℕ → ℕ) →
    sum_upto n (λ k. w * f k + g k) ≡ w * sum_upto n f + sum_upto n g
sum_upto-linear zero w f g = omega arith
sum_upto-linear (suc n) w f g = omega (arith, sum_upto-linear n w f g)

-- the sum of a list, by its places
pub sum-by_places : (xs : List ℕ) (n : ℕ) → n ≤ length xs →
    sum (take n xs) ≡ sum_upto n (λ k. get_or xs k 0)
sum-by_places xs zero h = refl
sum-by_places xs (suc n) h =
    let more = sum_by_more (λ x. x) xs n 0 (omega arith) in
    rw (← add-one) (omega (arith, more, sum-by_places xs n (omega arith)))

-- the weighted shares of all rolls are the weights of all parts, each with all its shares
pub sum_upto-weighted_share : (parts : List (ℕ × List ℕ)) (n : ℕ) →
    sum_upto n (weighted_share parts)
    ≡ sum_by (λ part. part.0 * sum_upto n (λ k. get_or part.1 k 0)) parts
sum_upto-weighted_share [] n = sum_upto-zero n
sum_upto-weighted_share (p ∷ ps) n =
    let cons =
    sum_upto-same n (weighted_share (p ∷ ps)) (λ k. p.0 * get_or p.1 k 0 + weighted_share ps k)
    (λ k _. sum_by-cons (λ part. part.0 * get_or part.1 k 0) p ps) in
    let split = sum_upto-linear n p.0 (λ k. get_or p.1 k 0) (weighted_share ps) in
    let rest = sum_upto-weighted_share ps n in
    let all = sum_by-cons (λ part. part.0 * sum_upto n (λ k. get_or part.1 k 0)) p ps in
    omega (arith, cons, split, rest, all)

-- a list whose last number is 0 adds up to the numbers before it
pub sum_upto-without_last : (xs : List ℕ) (n : ℕ) → length xs ≡ suc n → get_or xs n 0 ≡ 0 →
    sum_upto n (λ k. get_or xs k 0) ≡ sum xs
sum_upto-without_last xs n len last =
    let all = take_all (suc n) xs (omega arith) in
    let places = sum-by_places xs (suc n) (omega arith) in
    let total : sum (take (suc n) xs) ≡ sum xs = ap sum all in
    omega (arith, places, total, last)

-- parts of a whole each, with no share at 22 rolls, have
-- their weights times the whole below 22 rolls
wholes_by_weight : (parts : List (ℕ × List ℕ)) → All (λ part. get_or part.1 22 0 ≡ 0) parts →
    All (λ part. (sum part.1 ≡ whole) × (length part.1 ≡ 23)) parts →
    sum_by (λ part. part.0 * sum_upto 22 (λ k. get_or part.1 k 0)) parts
    ≡ sum_by (λ part. part.0) parts * whole
wholes_by_weight [] room wholes = omega arith
wholes_by_weight (p ∷ ps) room wholes =
    let here = All-head (λ part. (sum part.1 ≡ whole) × (length part.1 ≡ 23)) p ps wholes in
    let none = All-head (λ part. get_or part.1 22 0 ≡ 0) p ps room in
    let one = sum_upto-without_last p.1 22 here.1 none in
    let rest =
    wholes_by_weight ps (All-tail (λ part. get_or part.1 22 0 ≡ 0) p ps room)
    (All-tail (λ part. (sum part.1 ≡ whole) × (length part.1 ≡ 23)) p ps wholes) in
    let value : p.0 * sum_upto 22 (λ k. get_or p.1 k 0) ≡ p.0 * whole =
    ap (λ n. p.0 * n) (one ∙ here.0) in
    let terms = sum_by-cons (λ part. part.0 * sum_upto 22 (λ k. get_or part.1 k 0)) p ps in
    let weights = sum_by-cons (λ (part : ℕ × List ℕ). part.0) p ps in
    rw (terms, weights, value, rest) (omega arith)

-- shares that are the weighted shares of such parts, one roll later, add up to the whole
pub moved_whole : (xs : List ℕ) (parts : List (ℕ × List ℕ)) → length xs ≡ 23 → get_or xs 0 0 ≡ 0 →
    ((j : ℕ) → j < 22 → 36 * get_or xs (suc j) 0 ≡ weighted_share parts j) →
    All (λ part. get_or part.1 22 0 ≡ 0) parts →
    All (λ part. (sum part.1 ≡ whole) × (length part.1 ≡ 23)) parts →
    sum_by (λ part. part.0) parts ≡ 36 → sum xs ≡ whole
moved_whole [] parts len start moved room wholes weights = absurd (omega arith)
moved_whole (x ∷ ys) parts len start moved room wholes weights =
    let cons = sum_by-cons (λ y. y) x ys in
    let places = sum-by_places ys 22 (omega arith) in
    let all : sum (take 22 ys) ≡ sum ys = ap sum (take_all 22 ys (omega arith)) in
    let scaled = sum_upto-linear 22 36 (λ k. get_or ys k 0) (λ k. 0) in
    let blank = sum_upto-zero 22 in
    let terms =
    sum_upto-same 22 (λ k. 36 * get_or ys k 0 + 0) (weighted_share parts)
    (λ k lt. omega (arith, moved k lt)) in
    let parts_sum = sum_upto-weighted_share parts 22 in
    let by_weight = wholes_by_weight parts room wholes in
    let by_36 : sum_by (λ part. part.0) parts * whole ≡ 36 * whole = ap (λ n. n * whole) weights in
    finish x (sum (x ∷ ys)) (sum ys) (sum_upto 22 (λ k. get_or ys k 0)) _ _ _ start cons
    (omega (arith, places, all)) scaled blank terms (parts_sum ∙ (by_weight ∙ by_36))
  where
    finish : (x total rest upto scaled blank shares : ℕ) → x ≡ 0 → total ≡ x + rest → rest ≡ upto →
        scaled ≡ 36 * upto + blank → blank ≡ 0 → scaled ≡ shares → shares ≡ 36 * whole →
        total ≡ whole
    finish x total rest upto scaled blank shares a b c d e f g = omega arith

-- numbers that are those of g below i, and one more in its place
pub one_more_cell : (g : ℕ → ℕ) (cells : List ℕ) (i place y : ℕ) → place ≡ i → i < length cells →
    ((k : ℕ) → k < i → slice_index cells k ≡ g k) → y ≡ g i →
    (k : ℕ) → k < i + 1 → slice_index (slice_set cells place y) k ≡ g k
one_more_cell g cells i place y same low were is =
    below_more (λ k. slice_index (slice_set cells place y) k ≡ g k) i
    (λ k under. get_or-set_other cells place k y 0 (λ e. absurd (omega arith)) ∙ were k under)
    (get_or-set_at cells place i y 0 (sym same) (omega arith) ∙ is)
