-- Sums over lists, and lists of numbers by their sums.
use Rattle.std.proofs.Common.{zero, suc, ◌≡◌, ℕ, ◌+◌, ◌*◌, ◌<◌, ◌≤◌, List, [], ◌∷◌, length, map}
use Rattle.std.proofs.Common.{flat_map, sum_by, refl, ap, arith, sum, get_or, replicate}
use Rattle.std.specs.List.{range_with_len}
use Rattle.std.proofs.lemmas.List.Sums.{sum_by-cons, sum_by-append}

-- a sum over a list that was mapped
pub sum_by-map : {X Y : Type 0} (g : Y → ℕ) (h : X → Y) (xs : List X) →
    sum_by g (map h xs) ≡ sum_by (λ x. g (h x)) xs
sum_by-map g h [] = refl
sum_by-map g h (x ∷ xs) =
    omega
    (arith, sum_by-cons g (h x) (map h xs), sum_by-cons (λ y. g (h y)) x xs, sum_by-map g h xs)

-- a sum over lists joined end to end
pub sum_by-flat_map : {X Y : Type 0} (g : Y → ℕ) (h : X → List Y) (xs : List X) →
    sum_by g (flat_map h xs) ≡ sum_by (λ x. sum_by g (h x)) xs
sum_by-flat_map g h [] = refl
sum_by-flat_map g h (x ∷ xs) =
    omega (
      arith,
      sum_by-append g (h x) (flat_map h xs),
      sum_by-cons (λ y. sum_by g (h y)) x xs,
      sum_by-flat_map g h xs,
    )

-- sums of equal numbers
pub sum_by-equal : {X : Type 0} (g h : X → ℕ) (xs : List X) → ((x : X) → g x ≡ h x) →
    sum_by g xs ≡ sum_by h xs
sum_by-equal g h [] e = refl
sum_by-equal g h (x ∷ xs) e =
    omega (arith, sum_by-cons g x xs, sum_by-cons h x xs, e x, sum_by-equal g h xs e)

-- sums of numbers that are no greater
pub sum_by-at_most : {X : Type 0} (g h : X → ℕ) (xs : List X) → ((x : X) → g x ≤ h x) →
    sum_by g xs ≤ sum_by h xs
sum_by-at_most g h [] e = omega arith
sum_by-at_most g h (x ∷ xs) e =
    omega (arith, sum_by-cons g x xs, sum_by-cons h x xs, e x, sum_by-at_most g h xs e)

-- the sum of a sum
pub sum_by-plus : {X : Type 0} (g h : X → ℕ) (xs : List X) →
    sum_by (λ x. g x + h x) xs ≡ sum_by g xs + sum_by h xs
sum_by-plus g h [] = refl
sum_by-plus g h (x ∷ xs) =
    omega (
      arith,
      sum_by-cons g x xs,
      sum_by-cons h x xs,
      sum_by-cons (λ y. g y + h y) x xs,
      sum_by-plus g h xs,
    )

-- the sum of a multiple
pub sum_by-times : {X : Type 0} (c : ℕ) (g : X → ℕ) (xs : List X) →
    sum_by (λ x. c * g x) xs ≡ c * sum_by g xs
sum_by-times c g [] = omega arith
sum_by-times c g (x ∷ xs) =
    omega (
      arith,
      ap (λ s. c * s) (sum_by-cons g x xs),
      sum_by-cons (λ y. c * g y) x xs,
      sum_by-times c g xs,
    )

-- the sum of one number at each place
pub sum_by-constant : {X : Type 0} (c : ℕ) (xs : List X) → sum_by (λ x. c) xs ≡ c * length xs
sum_by-constant c [] = omega arith
sum_by-constant c (x ∷ xs) = omega (arith, sum_by-cons (λ y. c) x xs, sum_by-constant c xs)

-- a sum of zeros
pub sum_by-zero : {X : Type 0} (f : X → ℕ) (xs : List X) → ((x : X) → f x ≡ 0) → sum_by f xs ≡ 0
sum_by-zero f [] e = refl
sum_by-zero f (x ∷ xs) e = omega (arith, sum_by-cons f x xs, e x, sum_by-zero f xs e)

-- sums over a range of numbers that are equal there
pub sum_by-equal_within : (g h : ℕ → ℕ) (a n : ℕ) → ((k : ℕ) → k < a + n → g k ≡ h k) →
    sum_by g (range_with_len a n) ≡ sum_by h (range_with_len a n)
sum_by-equal_within g h a zero e = refl
sum_by-equal_within g h a (suc n) e =
    omega (
      arith,
      sum_by-cons g a (range_with_len (a + 1) n),
      sum_by-cons h a (range_with_len (a + 1) n),
      e a (omega arith),
      sum_by-equal_within g h (a + 1) n (λ k le. e k (omega arith)),
    )

-- a sum of sums
pub sum_by-add : {X : Type 0} (f g h : X → ℕ) (xs : List X) → ((x : X) → f x ≡ g x + h x) →
    sum_by f xs ≡ sum_by g xs + sum_by h xs
sum_by-add f g h [] e = refl
sum_by-add f g h (x ∷ xs) e =
    omega (
      arith,
      sum_by-cons f x xs,
      sum_by-cons g x xs,
      sum_by-cons h x xs,
      e x,
      sum_by-add f g h xs e,
    )

-- the sum of a list by its head and its tail
pub sum-cons : (c : ℕ) (cs : List ℕ) → sum (c ∷ cs) ≡ c + sum cs
sum-cons c cs = sum_by-cons (λ x. x) c cs

-- a list of numbers that are all zero adds up to zero
pub sum-zeros : (x : List ℕ) → ((k : ℕ) → get_or x k 0 ≡ 0) → sum x ≡ 0
sum-zeros [] h = refl
sum-zeros (c ∷ cs) h =
    let rest : sum cs ≡ 0 = sum-zeros cs (λ k. h (suc k)) in
    let here : c ≡ 0 = h 0 in
    omega (arith, rest, here, sum-cons c cs)

-- a list of numbers that adds up to zero has zeros alone
pub zeros_of_sum : (x : List ℕ) → sum x ≡ 0 → x ≡ replicate (length x) 0
zeros_of_sum [] h = refl
zeros_of_sum (c ∷ cs) h =
    let here : c ≡ 0 = omega (arith, sum-cons c cs) in
    let rest : sum cs ≡ 0 = omega (arith, sum-cons c cs) in
    let tail = zeros_of_sum cs rest in
    cc
