-- Sums over the rolls, added up in the order of their indices.
use Rattle.std.proofs.Common.{◌≡◌, ⊎_elim, ℕ, suc, ◌+◌, ◌*◌, ◌^◌, ◌<◌, ◌≤◌, List, [], ◌∷◌, length, get_or, take}
use Rattle.std.proofs.Common.{map, sum_by, sum, refl, sym, ap, subst, ◌∙◌, arith}
use Rattle.std.proofs.lemmas.Bool.{cases_lt}
use Rattle.std.proofs.lemmas.List.{take_all, get_or-map, get_or_past}
use Rattle.std.proofs.lemmas.List.Sums.{sum_by-cons, sum_by_more, sum_by-take-le}
use Rattle.race_model.specs.Prelude.{Throw, one, all_rolls, roll_at, roll_index, weight, weighted, whole}
use Rattle.race_model.proofs.Dice.RollSums.{length-all_rolls, sum_by-weight, roll_index-range}
use Rattle.race_model.proofs.Dice.Throws.{roll_of_index}
use Rattle.race_model.proofs.Numbers.Sums.{sum_by-map, sum_by-equal, sum_by-zero}
use Rattle.fixed_fraction.specs.Totals.{weighted_share, weighted_at, sum_at}
use Rattle.fixed_fraction.proofs.Shares.{part_small, sum_upto, sum_upto-same, sum_upto-zero, sum_upto-linear}
use Rattle.fixed_fraction.proofs.Shares.{sum_upto-weighted_share}
use Rattle.fixed_fraction.proofs.Shares.{sum-by_places, sum_upto-without_last}

-- the sum over one roll more
pub roll-more : (g : Throw → ℕ) (i : ℕ) → i < 21
    → sum_by g (take (i + 1) all_rolls) ≡ sum_by g (take i all_rolls) + g (roll_at i)
unfolding roll_at
roll-more g i lt =
    sum_by_more g all_rolls i (record { first = one; second = one })
    (omega (arith, length-all_rolls))

-- the weights of the first rolls are within 36
pub weights-within : (i : ℕ) → i < 21 → sum_by weight (take i all_rolls) + weight (roll_at i) ≤ 36
weights-within i lt =
    omega (arith, roll-more weight i lt, sum_by-take-le weight all_rolls (i + 1), sum_by-weight)

-- a sum over 21 rolls is one over all
pub all-rolls : (g : Throw → ℕ) → sum_by g (take 21 all_rolls) ≡ sum_by g all_rolls
all-rolls g = ap (sum_by g) (take_all 21 all_rolls (omega (arith, length-all_rolls)))

-- the sum of 23 numbers, by their places
sum-places : (xs : List ℕ) → length xs ≡ 23 → sum xs ≡ sum_upto 23 (λ k. get_or xs k 0)
sum-places xs len =
    let all : sum (take 23 xs) ≡ sum xs = ap sum (take_all 23 xs (omega arith)) in
    sym all ∙ sum-by_places xs 23 (omega arith)

-- one number more, of those that go by the index of the roll
pub roll-next : (g : ℕ → ℕ) (i value w total : ℕ) → i < 21 → value ≡ g i →
    w ≡ weight (roll_at i) →
    total ≡ sum_by (λ v. weight v * g (roll_index v)) (take i all_rolls) →
    total + w * value ≡ sum_by (λ v. weight v * g (roll_index v)) (take (i + 1) all_rolls)
roll-next g i value w total lt is weighs so_far =
    let here : value ≡ g (roll_index (roll_at i)) = is ∙ ap g (sym (roll_of_index i lt).1) in
    let part : w * value ≡ weight (roll_at i) * g (roll_index (roll_at i)) =
    ap (λ n. n * value) weighs ∙ ap (λ n. weight (roll_at i) * n) here in
    rw (roll-more (λ v. weight v * g (roll_index v)) i lt) (omega (arith, so_far, part))

-- one number more, of which none is too large
module _ (g : ℕ → ℕ) (i value w total most : ℕ) (lt : i < 21) (is : value ≡ g i)
    (small : value ≤ most) (weighs : w ≡ weight (roll_at i))
    (so_far : total ≡ sum_by (λ v. weight v * g (roll_index v)) (take i all_rolls))
    (bound : total ≤ sum_by weight (take i all_rolls) * most) where
  pub roll-added : total + w * value
      ≡ sum_by (λ v. weight v * g (roll_index v)) (take (i + 1) all_rolls)
  roll-added = roll-next g i value w total lt is weighs so_far

  pub roll-bound : total + w * value ≤ sum_by weight (take (i + 1) all_rolls) * most
  roll-bound =
      let next : sum_by weight (take (i + 1) all_rolls) ≡ sum_by weight (take i all_rolls) + w =
      roll-more weight i lt ∙ ap (λ n. sum_by weight (take i all_rolls) + n) (sym weighs) in
      let all = part_small total w value (sum_by weight (take i all_rolls))
      (sum_by weight (take (i + 1) all_rolls)) most 0 small next (omega (arith, bound)) in
      omega (arith, all)

-- numbers of at most 22 wholes each leave room in 128 bits
pub rolls-fit : (i total : ℕ) → i < 21
    → total ≤ sum_by weight (take (i + 1) all_rolls) * (22 * whole) → total < 2 ^ 128
unfolding whole
rolls-fit i total lt bound =
    omega (arith, roll-more weight i lt, weights-within i lt)

-- the sum after all rolls
pub rolls-done : (g : Throw → ℕ) (i total : ℕ) → i ≡ 21 → total ≡ sum_by g (take i all_rolls)
    → total ≡ sum_by g all_rolls
rolls-done g i total all is = is ∙ (ap (λ n. sum_by g (take n all_rolls)) all ∙ all-rolls g)

pub rolls-bound : (i total most : ℕ) → i ≡ 21 → total ≤ sum_by weight (take i all_rolls) * most
    → total ≤ 36 * most
rolls-bound i total most all bound =
    subst (λ n. total ≤ n * most)
    (rolls-done weight i (sum_by weight (take i all_rolls)) all refl ∙ sum_by-weight) bound

-- the weights, as a list
pub weights-by_index : (i : ℕ) → i < 21
    → get_or
    (1 ∷ 2 ∷ 1 ∷ 2 ∷ 2 ∷ 1 ∷ 2 ∷ 2 ∷ 2 ∷ 1 ∷ 2 ∷ 2 ∷ 2 ∷ 2 ∷ 1 ∷ 2 ∷ 2 ∷ 2 ∷ 2 ∷ 2 ∷ 1 ∷ []) i 0
    ≡ weight (roll_at i)
unfolding all_rolls roll_at
weights-by_index i lt =
    get_or-map weight all_rolls i (record { first = one; second = one }) 0
    (omega (arith, length-all_rolls))

-- a number for all rolls alike
rolls-alike : (n : ℕ) → sum_by (λ v. weight v * n) all_rolls ≡ 36 * n
unfolding all_rolls
rolls-alike n = omega arith

-- numbers that go by the index of the roll, added up by the weights: those of the rolls that are no
-- doubles twice, and those of the doubles
pub weighted-by_index : (g : ℕ → ℕ) → weighted (λ v. g (roll_index v))
    ≡ 2 * sum_by g
    (1 ∷ 3 ∷ 4 ∷ 6 ∷ 7 ∷ 8 ∷ 10 ∷ 11 ∷ 12 ∷ 13 ∷ 15 ∷ 16 ∷ 17 ∷ 18 ∷ 19 ∷ [])
    + sum_by g (0 ∷ 2 ∷ 5 ∷ 9 ∷ 14 ∷ 20 ∷ [])
unfolding all_rolls
weighted-by_index g = omega arith

-- the shares of exactly k rolls of some rolls, and that of one roll more
pub sum_at-more : (spreads : List (List ℕ)) (indices : List ℕ) (j k : ℕ) → j < length indices →
    sum_at spreads (take (j + 1) indices) k
    ≡ sum_at spreads (take j indices) k + get_or (get_or spreads (get_or indices j 0) []) k 0
sum_at-more spreads indices j k lt =
    sum_by_more (λ i. get_or (get_or spreads i []) k 0) indices j 0 lt

-- where none of 21 spreads has a share of exactly k rolls, the sum of some is none
pub sum_at-zero : (spreads : List (List ℕ)) (indices : List ℕ) (k : ℕ) → length spreads ≡ 21
    → ((i : ℕ) → i < 21 → get_or (get_or spreads i []) k 0 ≡ 0) → sum_at spreads indices k ≡ 0
sum_at-zero spreads indices k len none =
    sum_by-zero (λ i. get_or (get_or spreads i []) k 0) indices (λ i. ⊎_elim (none i)
    (λ past. ap (λ (xs : List ℕ). get_or xs k 0)
    (get_or_past spreads i [] (omega (arith, past, len))))
    (cases_lt i 21))

-- where no roll leads to a share of exactly k rolls, their sum is none
pub weighted_at-zero : (spreads : List (List ℕ)) (k : ℕ)
    → ((i : ℕ) → i < 21 → get_or (get_or spreads i []) k 0 ≡ 0) → weighted_at spreads k ≡ 0
weighted_at-zero spreads k none =
    sum_by-zero (λ v. weight v * get_or (get_or spreads (roll_index v) []) k 0) all_rolls
    (λ v.
    ap (λ n. weight v * n) (none (roll_index v) (roll_index-range v)) ∙ times-none (weight v))
  where
    times-none : (n : ℕ) → n * 0 ≡ 0
    times-none n = omega arith

-- sums of the shares that the rolls lead to add up to 36 wholes
pub shares-summed : (xs : List ℕ) (spreads : List (List ℕ)) → length xs ≡ 23
    → ((k : ℕ) → k < 23 → get_or xs k 0 ≡ weighted_at spreads k)
    → ((i : ℕ) → i < 21 → sum (get_or spreads i []) ≡ whole)
    → ((i : ℕ) → i < 21 → length (get_or spreads i []) ≡ 23) → sum xs ≡ 36 * whole
shares-summed xs spreads len each wholes lengths =
    sum-places xs len
    ∙ (sum_upto-same 23 (λ k. get_or xs k 0) (weighted_share parts)
    (λ k lt. each k lt ∙ sym (sum_by-map (λ part. part.0 * get_or part.1 k 0) of_roll all_rolls))
    ∙ (sum_upto-weighted_share parts 23
    ∙ (sum_by-map (λ part. part.0 * sum_upto 23 (λ k. get_or part.1 k 0)) of_roll all_rolls
    ∙ (sum_by-equal (λ v. weight v * sum_upto 23 (λ k. get_or (spread v) k 0))
    (λ v. weight v * whole) all_rolls (λ v. ap (λ n. weight v * n) (all v))
    ∙ rolls-alike whole))))
  where
    spread : Throw → List ℕ
    spread v = get_or spreads (roll_index v) []

    of_roll : Throw → ℕ × List ℕ
    of_roll v = (weight v, spread v)

    parts : List (ℕ × List ℕ)
    parts = map of_roll all_rolls

    all : (v : Throw) → sum_upto 23 (λ k. get_or (spread v) k 0) ≡ whole
    all v =
        sym (sum-places (spread v) (lengths (roll_index v) (roll_index-range v)))
        ∙ wholes (roll_index v) (roll_index-range v)

-- shares that are a 36th of such sums, one roll later, add up to the whole
pub shares-moved : (xs totals : List ℕ) → length xs ≡ 23 → length totals ≡ 23 → get_or xs 0 0 ≡ 0
    → ((j : ℕ) → j < 22 → 36 * get_or xs (suc j) 0 ≡ get_or totals j 0) → get_or totals 22 0 ≡ 0
    → sum totals ≡ 36 * whole → sum xs ≡ whole
shares-moved [] totals len len_t start moved none all = absurd (omega arith)
shares-moved (x ∷ ys) totals len len_t start moved none all =
    let cons = sum_by-cons (λ y. y) x ys in
    let places = sum-by_places ys 22 (omega arith) in
    let rest : sum (take 22 ys) ≡ sum ys = ap sum (take_all 22 ys (omega arith)) in
    let scaled = sum_upto-linear 22 36 (λ k. get_or ys k 0) (λ k. 0) in
    let blank = sum_upto-zero 22 in
    let terms = sum_upto-same 22 (λ k. 36 * get_or ys k 0 + 0) (λ k. get_or totals k 0)
    (λ k lt. omega (arith, moved k lt)) in
    finish x (sum (x ∷ ys)) (sum ys) (sum_upto 22 (λ k. get_or ys k 0)) _ _ _ start cons
    (omega (arith, places, rest)) scaled blank terms
    (sum_upto-without_last totals 22 len_t none ∙ all)
  where
    finish : (x total rest upto scaled blank shares : ℕ) → x ≡ 0 → total ≡ x + rest
        → rest ≡ upto → scaled ≡ 36 * upto + blank → blank ≡ 0 → scaled ≡ shares
        → shares ≡ 36 * whole → total ≡ whole
    finish x total rest upto scaled blank shares a b c d e f g = omega arith
