-- The numbers of sequences for 0 to n rolls add up to all
-- sequences, and each weighed by its rolls to the total.
use Rattle.std.proofs.Common.{◌≡◌, ◌≢◌, ◌⊎◌, ⊎_elim, ℕ, zero, suc, ◌+◌, ◌*◌, ◌^◌, ◌<◌, ◌≤◌, List}
use Rattle.std.proofs.Common.{[], ◌∷◌, sum_by, cond, refl, ap, sym, ◌∙◌, arith, eq-eqb, ne_eqb}
use Rattle.std.proofs.Common.{mul_comm}
use Rattle.std.specs.List.{range_with_len}
use Rattle.std.proofs.lemmas.List.Sums.{sum_by-cons}
use Rattle.race_model.specs.Prelude.{Throw, whole, Strategy, rolls, sequences, total_over, count_over, total, count_of}
use Rattle.race_model.specs.Prelude.{IsWithin}
use Rattle.race_model.proofs.Numbers.Sums.{sum_by-equal, sum_by-plus, sum_by-zero, sum_by-times}
use Rattle.race_model.proofs.Strategies.Histories.{sequence_count, one_at, rolls-within}

-- sums over two lists change places
sum_by-swapped : {X Y : Type 0} (g : X → Y → ℕ) (xs : List X) (ys : List Y) →
    sum_by (λ y. sum_by (λ x. g x y) xs) ys ≡ sum_by (λ x. sum_by (g x) ys) xs
sum_by-swapped g xs [] = sym (sum_by-zero (λ x. 0) xs (λ x. refl))
sum_by-swapped g xs (y ∷ ys) =
    sum_by-cons (λ z. sum_by (λ x. g x z) xs) y ys
    ∙ ap (λ n. sum_by (λ x. g x y) xs + n) (sum_by-swapped g xs ys)
    ∙ sym (sum_by-plus (λ x. g x y) (λ x. sum_by (g x) ys) xs)
    ∙ sum_by-equal (λ x. g x y + sum_by (g x) ys) (λ x. sum_by (g x) (y ∷ ys)) xs
    (λ x. sym (sum_by-cons (g x) y ys))

-- below its range a number is not counted
none_below : (h : ℕ → ℕ) (a n r : ℕ) → r < a →
    sum_by (λ k. one_at k r * h k) (range_with_len a n) ≡ 0
none_below h a zero r below = refl
none_below h a (suc n) r below =
    sum_by-cons (λ k. one_at k r * h k) a (range_with_len (a + 1) n)
    ∙ ap (λ b. cond b 1 0 * h a + sum_by (λ k. one_at k r * h k) (range_with_len (a + 1) n))
    (ne_eqb r a (omega arith))
    ∙ omega (arith, none_below h (a + 1) n r (omega arith))

-- within its range a number is counted once
once_within : (h : ℕ → ℕ) (a n r : ℕ) → a ≤ r → r < a + n →
    sum_by (λ k. one_at k r * h k) (range_with_len a n) ≡ h r
once_within h a zero r low high = absurd (omega arith)
once_within h a (suc n) r low high = ⊎_elim here (later (once_within h (a + 1) n r)) (decide r a)
  where
    decide : (r a : ℕ) → (r ≡ a) ⊎ (r ≢ a)
    decide r a = grind arith

    here : r ≡ a → sum_by (λ k. one_at k r * h k) (range_with_len a (suc n)) ≡ h r
    here e =
        sum_by-cons (λ k. one_at k r * h k) a (range_with_len (a + 1) n)
        ∙ ap (λ b. cond b 1 0 * h a + sum_by (λ k. one_at k r * h k) (range_with_len (a + 1) n))
        (eq-eqb r a e)
        ∙ omega (arith, none_below h (a + 1) n r (omega arith), ap h e)

    later : (a + 1 ≤ r → r < a + 1 + n →
        sum_by (λ k. one_at k r * h k) (range_with_len (a + 1) n) ≡ h r) → r ≢ a →
        sum_by (λ k. one_at k r * h k) (range_with_len a (suc n)) ≡ h r
    later rest apart =
        sum_by-cons (λ k. one_at k r * h k) a (range_with_len (a + 1) n)
        ∙ ap (λ b. cond b 1 0 * h a + sum_by (λ k. one_at k r * h k) (range_with_len (a + 1) n))
        (ne_eqb r a apart)
        ∙ omega (arith, rest (omega arith) (omega arith))

-- the counts of a strategy of at most n turns, each weighed by a number that goes by the rolls
counts_weighed : (h : ℕ → ℕ) (m n : ℕ) (s : Strategy) → IsWithin n s →
    sum_by (λ k. count_over m s k * h k) (range_with_len 0 (suc n))
    ≡ sum_by (λ w. h (rolls s w)) (sequences m)
unfolding count_over
counts_weighed h m n s within =
    sum_by-equal (λ k. sum_by (λ w. one_at k (rolls s w)) (sequences m) * h k)
    (λ k. sum_by (λ w. one_at k (rolls s w) * h k) (sequences m)) (range_with_len 0 (suc n))
    (λ k. times k)
    ∙ sum_by-swapped (λ w k. one_at k (rolls s w) * h k) (sequences m) (range_with_len 0 (suc n))
    ∙ sum_by-equal (λ w. sum_by (λ k. one_at k (rolls s w) * h k) (range_with_len 0 (suc n)))
    (λ w. h (rolls s w)) (sequences m) (λ w. once w)
  where
    times : (k : ℕ) →
        sum_by (λ w. one_at k (rolls s w)) (sequences m) * h k
        ≡ sum_by (λ w. one_at k (rolls s w) * h k) (sequences m)
    times k =
        mul_comm (sum_by (λ w. one_at k (rolls s w)) (sequences m)) (h k)
        ∙ sym (sum_by-times (h k) (λ w. one_at k (rolls s w)) (sequences m))
        ∙ sum_by-equal (λ w. h k * one_at k (rolls s w)) (λ w. one_at k (rolls s w) * h k)
        (sequences m) (λ w. mul_comm (h k) (one_at k (rolls s w)))

    once : (w : List Throw) →
        sum_by (λ k. one_at k (rolls s w) * h k) (range_with_len 0 (suc n)) ≡ h (rolls s w)
    once w =
        let few = rolls-within n s w within in
        once_within h 0 (suc n) (rolls s w) (omega arith) (omega (arith, few))

-- the counts of a strategy of at most n turns add up to all sequences
pub counts_add_up_over : (m n : ℕ) (s : Strategy) → IsWithin n s →
    sum_by (count_over m s) (range_with_len 0 (suc n)) ≡ 36 ^ m
counts_add_up_over m n s within =
    sum_by-equal (count_over m s) (λ k. count_over m s k * 1) (range_with_len 0 (suc n))
    (λ k. omega arith)
    ∙ counts_weighed (λ k. 1) m n s within
    ∙ sequence_count m

-- weighed by the rolls they add up to the total
pub counts_weigh_over : (m n : ℕ) (s : Strategy) → IsWithin n s →
    sum_by (λ k. count_over m s k * k) (range_with_len 0 (suc n)) ≡ total_over m s
unfolding total_over
counts_weigh_over m n s within = counts_weighed (λ k. k) m n s within

-- of at most 22 turns
pub counts_add_up : (s : Strategy) → IsWithin 22 s →
    sum_by (count_of s) (range_with_len 0 23) ≡ whole
unfolding whole
counts_add_up s within = counts_add_up_over 22 22 s within

-- the counts of a strategy of at most 22 turns, each times its number of rolls
pub counts_weigh : (s : Strategy) → IsWithin 22 s →
    sum_by (λ k. count_of s k * k) (range_with_len 0 23) ≡ total s
counts_weigh s within = counts_weigh_over 22 22 s within
