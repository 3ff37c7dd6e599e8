-- The recurrences of the table, from those of the counts of lists.
use Rattle.std.proofs.Common.{◌≡◌, ℕ, zero, suc, ◌+◌, ◌-◌, ◌<◌, ◌≤◌, cond, ◌&&◌, if◌then◌else◌, nat_lt, min, refl, sym}
use Rattle.std.proofs.Common.{◌∙◌, ap, inl, inr, add-one, arith, ◌⊎◌, ◌==◌}
use Rattle.std.proofs.lemmas.Bool.{lt-ltb, le-ltb, cases_lt}
use Rattle.race_model.specs.Prelude.{pips_from, first_of, count_to}
use Rattle.race_model.proofs.Ranks.BoxCounts.{within}
use Rattle.race_model.proofs.Ranks.RankCounts as counts
use Rattle.race_model.proofs.Ranks.RankOrder as order
use Rattle.race_model.proofs.Ranks.PositionTotals as totals
use Rattle.ranking.specs.Tables.{ways, used, is_used}

-- the lists on the points from p on are those of 7 - p counts
pub ways-is : (n p k m : ℕ) → n + p ≡ 7 → ways p k m ≡ counts.ways n p k m
unfolding ways within counts.ways
ways-is n p k m e =
    let n_is : 7 - p ≡ n = omega arith in ap (λ j. within j k (λ y. pips_from p y == m)) n_is

-- the lists with a checker on point p are those of 7 - p counts
pub used-is : (n p k m : ℕ) → n + p ≡ 6 → used p k m ≡ counts.used n p k m
unfolding used within counts.used
used-is n p k m e =
    let n_is : 7 - p ≡ suc n = omega arith in
    ap (λ j. within j k (λ y. (pips_from p y == m) && is_used y)) n_is

-- no number of lists is above that of the positions
pub ways-most : (p k m : ℕ) → 1 ≤ p → k ≤ 15 → ways p k m ≤ 54264
unfolding ways within
ways-most p k m h l = totals.within-most (7 - p) k (λ y. pips_from p y == m) (omega arith) l

-- on no points there is one list, of no pips
pub ways-end : (k m : ℕ) → ways 7 k m ≡ cond (0 == m) 1 0
ways-end k m = ways-is 0 7 k m refl ∙ counts.ways-nil 7 k m

-- the first point is empty or used
pub ways-step : (p k m : ℕ) → p ≤ 6 → k ≤ 15 → ways p k m ≡ ways (suc p) k m + used p k m
ways-step p k m h l =
    omega (
      arith,
      counts.ways-used (6 - p) p k m l,
      ways-is (suc (6 - p)) p k m (omega arith),
      ways-is (6 - p) (suc p) k m (omega arith),
      used-is (6 - p) p k m (omega arith),
    )

-- without a checker no point is used
pub used-none : (p m : ℕ) → p ≤ 6 → used p 0 m ≡ 0
used-none p m h = used-is (6 - p) p 0 m (omega arith) ∙ counts.used-zero (6 - p) p m

-- with one, it is taken away
pub used-step : (p k m : ℕ) → p ≤ 6 → k < 15 →
    used p (suc k) m ≡ (if nat_lt m p then 0 else ways p k (m - p))
used-step p k m h l = used-is (6 - p) p (suc k) m (omega arith) ∙ by_room (cases_lt m p) where
  by_room : (m < p) ⊎ (p ≤ m) →
      counts.used (6 - p) p (suc k) m ≡ (if nat_lt m p then 0 else ways p k (m - p))
  by_room (inl low) = rw (lt-ltb m p low) (counts.used-low (6 - p) p k m l low)
  by_room (inr room) =
      rw (le-ltb m p room)
      (counts.used-more (6 - p) p k m l room
      ∙ sym (ways-is (suc (6 - p)) p k (m - p) (omega arith)))

-- the positions of at most m pips are those of fewer and those of m
pub first_of-step : (m : ℕ) → first_of (m + 1) ≡ first_of m + ways 1 15 m
first_of-step m =
    let e : m + 1 ≡ suc m = add-one m in
    omega
    (arith, ap first_of e, order.first_of-suc m, order.count_to-step m, ways-is 6 1 15 m refl)

-- no more positions have fewer pips than there are
pub first_of-most : (m : ℕ) → first_of m ≤ 54264
first_of-most zero = omega (arith, order.first_of-zero)
first_of-most (suc m) = omega (arith, order.first_of-suc m, totals.count_to-most m)

-- pip counts above 90 count as 90, or 91 where fewer are counted
pub first_of-capped : (b : ℕ) → first_of (min b 91) ≡ first_of b
first_of-capped b = by_cases (cases_lt b 91) where
  by_cases : (b < 91) ⊎ (91 ≤ b) → first_of (min b 91) ≡ first_of b
  by_cases (inl less) = let e : min b 91 ≡ b = omega arith in ap first_of e
  by_cases (inr more) =
      let e : min b 91 ≡ 91 = omega arith in
      ap first_of e ∙ totals.first_of-all 91 (omega arith)
      ∙ sym (totals.first_of-all b (omega arith))

-- pip counts above 90 count as 90 where at most so many are counted
pub first_of-capped_suc : (b : ℕ) → first_of (min b 90 + 1) ≡ count_to b
first_of-capped_suc b = by_cases (cases_lt b 90) where
  by_cases : (b < 90) ⊎ (90 ≤ b) → first_of (min b 90 + 1) ≡ count_to b
  by_cases (inl less) =
      let e : min b 90 + 1 ≡ suc b = omega arith in ap first_of e ∙ order.first_of-suc b
  by_cases (inr more) =
      let e : min b 90 + 1 ≡ 91 = omega arith in
      ap first_of e ∙ totals.first_of-all 91 (omega arith) ∙ sym (totals.count_to-all b more)
