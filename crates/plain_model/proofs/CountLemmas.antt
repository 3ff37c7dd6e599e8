-- Positions before one, counted by their first counts.
use Rattle.std.proofs.Common.{◌≡◌, ℕ, zero, suc, ◌+◌, ◌-◌, ◌*◌, ◌^◌, ◌<◌, ◌≤◌, cond, List, [], ◌∷◌, ◌++◌, length, take}
use Rattle.std.proofs.Common.{take_all, refl, ap, sym, ◌∙◌, append_assoc, add-one, lit≤, arith, sum_by, slice_set}
use Rattle.std.proofs.Math.Nat.{pow-suc, mul-le-mul_right}
use Rattle.std.proofs.lemmas.List.{take_more_set, append-nil}
use Rattle.std.proofs.lemmas.List.Sums.{sum_by-cons}
use Rattle.race_model.specs.Prelude.{Board, boards, numbers_from, count_positions, rank}
use Rattle.race_model.proofs.Numbers.Sums.{sum_by-equal}
use Rattle.race_model.proofs.Ranks.BoxCounts.{count_by-boards, sum_by-last}
use Rattle.plain_model.specs.Counting.{is_position_before, positions_before}

-- all counts are given
pub positions_before-none_left : (first : List ℕ) (x : Board) →
    positions_before first 0 x ≡ cond (is_position_before first x) 1 0
unfolding positions_before boards
positions_before-none_left first x =
    sum_by-cons (λ cs. cond {A = ℕ} (is_position_before (first ++ cs) x) 1 0) [] []
    ∙ ap (λ y. cond {A = ℕ} (is_position_before y x) 1 0 + 0) (append-nil first)
    ∙ omega arith

-- one count more is given
pub positions_before-one_left : (first : List ℕ) (n : ℕ) (x : Board) →
    positions_before first (suc n) x
    ≡ sum_by (λ c. positions_before (first ++ c ∷ []) n x) (numbers_from 0 16)
unfolding positions_before
positions_before-one_left first n x =
    count_by-boards n (λ cs. is_position_before (first ++ cs) x)
    ∙ sum_by-equal _ _ (numbers_from 0 16)
    (λ c.
    sum_by-equal _ _ (boards n)
    (λ cs.
    ap (λ y. cond {A = ℕ} (is_position_before y x) 1 0)
    (sym (append_assoc first (c ∷ []) cs))))

-- a rank counts all
pub positions_before-rank : (x : Board) → positions_before [] 6 x ≡ rank x
unfolding positions_before rank count_positions
positions_before-rank x = refl

-- the first counts with one more set
pub take-first_set : (counts : List ℕ) (n c : ℕ) → length counts ≡ 6 → 0 < n → n ≤ 6 →
    take (6 - (n - 1)) (slice_set counts (6 - n) c) ≡ take (6 - n) counts ++ c ∷ []
take-first_set counts n c six some few =
    ap (λ k. take k (slice_set counts (6 - n) c)) (next n some few)
    ∙ take_more_set counts (6 - n) c (omega arith)
  where
    next : (n : ℕ) → 0 < n → n ≤ 6 → 6 - (n - 1) ≡ 6 - n + 1
    next n some few = omega arith

-- all six counts are given
pub positions_before-given : (counts : List ℕ) (n : ℕ) (x : Board) → length counts ≡ 6 → n ≡ 0 →
    positions_before (take (6 - n) counts) n x ≡ cond (is_position_before counts x) 1 0
positions_before-given counts zero x six none =
    ap (λ y. positions_before y 0 x) (take_all 6 counts (omega arith))
    ∙ positions_before-none_left counts x
positions_before-given counts (suc n) x six none = absurd (omega arith)

-- each of the 16 numbers in the first place left
pub before_tried : (first : List ℕ) (n : ℕ) (x : Board) → 0 < n →
    sum_by (λ c. positions_before (first ++ c ∷ []) (n - 1) x) (numbers_from 0 16)
    ≡ positions_before first n x
before_tried first zero x some = absurd (omega arith)
before_tried first (suc n) x some =
    ap (λ k. sum_by (λ c. positions_before (first ++ c ∷ []) k x) (numbers_from 0 16)) (less n)
    ∙ sym (positions_before-one_left first n x)
  where
    less : (n : ℕ) → suc n - 1 ≡ n
    less n = omega arith

-- no number was tried
pub before_untried : (f : ℕ → ℕ) → 0 ≡ sum_by f (numbers_from 0 0)
unfolding numbers_from
before_untried f = refl

-- one number more was tried
pub before_next : (f : ℕ → ℕ) (k found more : ℕ) → found ≡ sum_by f (numbers_from 0 k) →
    more ≡ f k → found + more ≡ sum_by f (numbers_from 0 (k + 1))
before_next f k found more e h =
    rw add-one (omega (arith, sum_by-last f 0 k, ap f (from_zero k), e, h))
  where
    from_zero : (k : ℕ) → 0 + k ≡ k
    from_zero k = omega arith

-- 16 times the lists with a count fewer
pub pow-step : (n : ℕ) → 0 < n → 16 * 16 ^ (n - 1) ≡ 16 ^ n
pow-step zero some = absurd (omega arith)
pow-step (suc n) some = ap (λ k. 16 * 16 ^ k) (less n) ∙ omega (arith, pow-suc 16 n)
  where
    less : (n : ℕ) → suc n - 1 ≡ n
    less n = omega arith

-- there are not too many lists of counts to count
pub pow-limit : (n : ℕ) → n ≤ 6 → 16 ^ n ≤ 16 ^ 6
pow-limit zero few = lit≤ tt
pow-limit (suc zero) few = lit≤ tt
pow-limit (suc (suc zero)) few = lit≤ tt
pow-limit (suc (suc (suc zero))) few = lit≤ tt
pow-limit (suc (suc (suc (suc zero)))) few = lit≤ tt
pow-limit (suc (suc (suc (suc (suc zero))))) few = lit≤ tt
pow-limit (suc (suc (suc (suc (suc (suc zero)))))) few = lit≤ tt
pow-limit (suc (suc (suc (suc (suc (suc (suc n))))))) few = absurd (omega arith)

-- one number more, each with at most so many lists
pub bounded_next : (k p found more : ℕ) → found ≤ k * p → more ≤ p → found + more ≤ (k + 1) * p
bounded_next k p found more e h = omega (arith, e, h)

-- the sum fits, as it stays at most 16 times so many
pub bounded_all : (k p found more : ℕ) → found ≤ k * p → more ≤ p → k < 16 → found + more ≤ 16 * p
bounded_all k p found more e h l =
    let m : (k + 1) * p ≤ 16 * p = mul-le-mul_right p (omega arith) in
    omega (arith, bounded_next k p found more e h, m)
