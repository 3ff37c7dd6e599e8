-- How many positions there are, in all and to a pip count, by sums that are cheap to compute.
use Rattle.std.proofs.Common.{◌≡◌, ℕ, zero, suc, ◌+◌, ◌-◌, ◌<◌, ◌≤◌, ◌⊎◌, ⊎_elim, Bool, true, false, cond, not, ◌&&◌}
use Rattle.std.proofs.Common.{List, length, refl, sym, ◌∙◌, ap, subst, inl, inr, arith, slice_index, nat_le, ◌==◌}
use Rattle.std.proofs.lemmas.Bool.{le-leb, leb-true, and_parts, cases_lt}
use Rattle.race_model.specs.Prelude.{Board, IsPosition, pips, finished, count_positions, rank, first_of, count_to}
use Rattle.race_model.specs.Prelude.{position_count, at_rank}
use Rattle.race_model.proofs.Ranks.BoxCounts.{within, within-nil, within-zero, within-suc, within-add, within-none_on}
use Rattle.race_model.proofs.Ranks.RankCounts.{ways, ways-nil, ways-zero, ways-low}
use Rattle.race_model.proofs.Ranks.LevelTable.{levels, firsts, row-each, row-levels, row-firsts}
use Rattle.race_model.proofs.Ranks.RankOrder.{count_to-step, first_of-suc, first_of-zero}
use Rattle.race_model.proofs.Ranks.RankOrder.{count_to-rises, first_of-rises, rank-later}
use Rattle.race_model.proofs.Ranks.RankOrder.{rank_within, rank_bound, pips-range, at_rank_search}
use Rattle.race_model.proofs.Ranks.RankOrder.{at_rank_position, at_rank-rank, rank_reached}

-- the sum of a function at 0 to k
abbrev sum_to : (ℕ → ℕ) → ℕ → ℕ
sum_to f zero = f 0
sum_to f (suc k) = f (suc k) + sum_to f k

-- how many lists of n counts have at most k checkers, by sums alone
abbrev size : ℕ → ℕ → ℕ
size zero k = 1
size (suc n) k = sum_to (size n) k

-- that is how many there are, where it is known of fewer points
within-size_suc : (n : ℕ) → ((k : ℕ) → k ≤ 15 → within n k (λ _. true) ≡ size n k) → (k : ℕ) →
    k ≤ 15 → within (suc n) k (λ _. true) ≡ size (suc n) k
within-size_suc n rest zero h = within-zero n (λ _. true) ∙ rest 0 h
within-size_suc n rest (suc k) h =
    omega (
      arith,
      within-suc n k (λ _. true) (omega arith),
      rest (suc k) h,
      within-size_suc n rest k (omega arith),
    )

-- that is how many there are
within-size : (n k : ℕ) → k ≤ 15 → within n k (λ _. true) ≡ size n k
within-size zero k h = within-nil k (λ _. true)
within-size (suc n) k h = within-size_suc n (within-size n) k h

-- more points or more checkers, more lists
size-checkers : (n k : ℕ) → size n k ≤ size n (suc k)
size-checkers zero k = omega arith
size-checkers (suc n) k = omega arith

-- more points, more lists
size-points : (n k : ℕ) → size n k ≤ size (suc n) k
size-points n zero = omega arith
size-points n (suc k) = omega arith

-- no more than positions
size-most : (n k : ℕ) → n ≤ 6 → k ≤ 15 → size n k ≤ 54264
size-most n k h l =
    omega (
      arith,
      by_points n k (6 - n),
      by_checkers k (15 - k),
      ap (λ j. size j k) (omega-points n h),
      ap (size 6) (omega-checkers k l),
    ) where
      omega-points : (n : ℕ) → n ≤ 6 → n + (6 - n) ≡ 6
      omega-points n h = omega arith

      omega-checkers : (k : ℕ) → k ≤ 15 → k + (15 - k) ≡ 15
      omega-checkers k h = omega arith

      by_points : (n k d : ℕ) → size n k ≤ size (n + d) k
      by_points n k zero = let e : n + 0 ≡ n = omega arith in omega (arith, ap (λ j. size j k) e)
      by_points n k (suc d) =
          let e : n + suc d ≡ suc (n + d) = omega arith in
          omega (arith, ap (λ j. size j k) e, size-points (n + d) k, by_points n k d)

      by_checkers : (k d : ℕ) → size 6 k ≤ size 6 (k + d)
      by_checkers k zero = let e : k + 0 ≡ k = omega arith in omega (arith, ap (size 6) e)
      by_checkers k (suc d) =
          let e : k + suc d ≡ suc (k + d) = omega arith in
          omega (arith, ap (size 6) e, size-checkers 6 (k + d), by_checkers k d)

-- no test lets more lists pass than there are positions
pub within-most : (n k : ℕ) (test : List ℕ → Bool) → n ≤ 6 → k ≤ 15 → within n k test ≤ 54264
within-most n k test h l =
    omega (
      arith,
      size-most n k h l,
      within-size n k l,
      within-add n k (λ _. true) test (λ y. not (test y)) (λ y. either (test y)),
    ) where
      either : (c : Bool) → cond {A = ℕ} true 1 0 ≡ cond c 1 0 + cond (not c) 1 0
      either true = refl
      either false = refl

-- how many positions there are
pub position_count-all : position_count ≡ 54264
unfolding position_count count_positions within
position_count-all = within-size 6 15 (omega arith)

-- all positions have at most 90 pips
pub count_to-all : (b : ℕ) → 90 ≤ b → count_to b ≡ 54264
unfolding count_to position_count count_positions within
count_to-all b h =
    omega (
      arith,
      position_count-all,
      none,
      within-add 6 15 (λ _. true) (λ y. nat_le (pips y) b) (λ y. not (nat_le (pips y) b))
          (λ y. either (nat_le (pips y) b)),
    ) where
      either : (c : Bool) → cond {A = ℕ} true 1 0 ≡ cond c 1 0 + cond (not c) 1 0
      either true = refl
      either false = refl

      none : within 6 15 (λ y. not (nat_le (pips y) b)) ≡ 0
      none =
          within-none_on 6 15 (λ y. not (nat_le (pips y) b)) (omega arith)
          (λ y l few.
          ap not
          (le-leb (pips y) b
          (omega (arith, pips-range y (record { six = l; few = few })))))

-- no more positions are found with fewer than 91 pips or more
pub first_of-all : (b : ℕ) → 90 < b → first_of b ≡ 54264
first_of-all zero h = absurd (omega arith)
first_of-all (suc b) h = first_of-suc b ∙ count_to-all b (omega arith)

-- no count is above that of all positions
pub count_to-most : (b : ℕ) → count_to b ≤ 54264
count_to-most b = by_cases (cases_lt b 90) where
  by_cases : (b < 90) ⊎ (90 ≤ b) → count_to b ≤ 54264
  by_cases (inl less) =
      omega (arith, count_to-rises b 90 (omega arith), count_to-all 90 (omega arith))
  by_cases (inr more) = omega (arith, count_to-all b more)

-- ranks are under the number of positions
pub rank-range : (x : Board) → IsPosition x → rank x < 54264
rank-range x p = omega (arith, (rank_within x p).1, count_to-most (pips x))

-- the rank of the position of a rank is that rank
pub rank-at_rank : (r : ℕ) → r < 54264 → rank (at_rank r) ≡ r
rank-at_rank r h =
    by_position (rank_reached 91 r (omega (arith, h, first_of-all 91 (omega arith)))) where
      by_position : (x : Board) × ((IsPosition x) × (rank x ≡ r)) → rank (at_rank r) ≡ r
      by_position (x, a) = subst (λ q. rank (at_rank q) ≡ q) a.1 (ap rank (at_rank-rank x a.0))

-- a rank under the count of a bound is that of a position of at most so many pips
pub at_rank_under : (b r : ℕ) → r < count_to b → (rank (at_rank r) ≡ r) × (pips (at_rank r) ≤ b)
at_rank_under b r h =
    let ranked : rank (at_rank r) ≡ r = rank-at_rank r (omega (arith, count_to-most b)) in (
      ranked,
      (rank_bound (at_rank r) b (at_rank_position r)).0
          (subst (λ q. q < count_to b) (sym ranked) h),
    )

-- the finished position stands for each number that is no rank
pub at_rank-past : (r : ℕ) → 54264 ≤ r → at_rank r ≡ finished
unfolding count_positions within
at_rank-past r h = by_search (at_rank_search r) where
  by_search : ((at_rank r ≡ finished) × (count_positions (λ y. rank y == r) ≡ 0))
      ⊎ ((IsPosition (at_rank r)) × (rank (at_rank r) ≡ r)) → at_rank r ≡ finished
  by_search (inl none) = none.0
  by_search (inr some) = absurd (omega (arith, h, some.1, rank-range (at_rank r) some.0))

-- no position is before the finished one
pub rank-finished : rank finished ≡ 0
rank-finished =
    let e : pips finished ≡ 0 = refl in
    omega (
      arith,
      rank-later finished (record { six = refl; few = omega arith }),
      ap count_to e,
      count_to-step 0,
      first_of-zero,
      ways-none 6 0 15 (omega arith),
    ) where
      ways-none : (n p k : ℕ) → k ≤ 15 → ways n (suc p) k 0 ≡ 1
      ways-none zero p k h = ways-nil (suc p) k 0
      ways-none (suc n) p zero h = ways-zero n (suc p) 0 ∙ ways-none n (suc p) 0 h
      ways-none (suc n) p (suc k) h =
          ways-low n (suc p) k 0 (omega arith) (omega arith) ∙ ways-none n (suc p) (suc k) h

-- the table has each pip count
firsts-long : length firsts ≡ 92
unfolding levels firsts
firsts-long = refl

levels-long : length levels ≡ 91
unfolding levels
levels-long = refl

-- how many positions have fewer pips, by the table
pub first_at : (m : ℕ) → m < 92 → first_of m ≡ slice_index firsts m
first_at m low =
    let e : 0 + m ≡ m = omega arith in
    sym (row-each first_of 0 firsts row-firsts m (omega (arith, low, firsts-long)) ∙ ap first_of e)

-- how many positions have at most 8 pips
pub count_to-eight : count_to 8 ≡ 64
unfolding levels firsts
count_to-eight = sym (first_of-suc 8) ∙ first_at 9 (omega arith)

-- how many positions have at most 44 pips
pub count_to-44 : count_to 44 ≡ 26314
unfolding levels firsts
count_to-44 = sym (first_of-suc 44) ∙ first_at 45 (omega arith)

-- how many positions have at most 58 pips
pub count_to-58 : count_to 58 ≡ 46062
unfolding levels firsts
count_to-58 = sym (first_of-suc 58) ∙ first_at 59 (omega arith)

-- n levels from p on have no more positions each than those 25 above them
abbrev are_rising : List ℕ → ℕ → ℕ → Bool
are_rising counts p zero = true
are_rising counts p (suc n) =
    nat_le (slice_index counts p) (slice_index counts (25 + p)) && are_rising counts (suc p) n

-- each level has no more positions than that 25 above it
rising-each : (counts : List ℕ) (p n q : ℕ) → are_rising counts p n ≡ true → p ≤ q → q < p + n →
    slice_index counts q ≤ slice_index counts (25 + q)
rising-each counts p zero q all low high = absurd (omega arith)
rising-each counts p (suc n) q all low high =
    let parts =
    and_parts (nat_le (slice_index counts p) (slice_index counts (25 + p)))
    (are_rising counts (suc p) n) all in
    ⊎_elim
    (λ more. rising-each counts (suc p) n q parts.1 more (omega arith))
    (λ here.
    let e : p ≡ q = omega arith in
    subst (λ q. slice_index counts q ≤ slice_index counts (25 + q)) e
    (leb-true (slice_index counts p) (slice_index counts (25 + p)) parts.0))
    (cases_lt p q)

-- so it is from 21 pips to 32
rising-32 : are_rising levels 21 12 ≡ true
unfolding levels
rising-32 = refl

-- the positions of at most 32 pips, of at most 57 and of at most 33
first_of-33 : first_of 33 ≡ 9233
unfolding levels firsts
first_of-33 = first_at 33 (omega arith)

first_of-34 : first_of 34 ≡ 10335
unfolding levels firsts
first_of-34 = first_at 34 (omega arith)

first_of-58 : first_of 58 ≡ 45031
unfolding levels firsts
first_of-58 = first_at 58 (omega arith)

-- 25 levels from one of 21 to 33 pips on have at most as many positions as those
levels-25 : (n q : ℕ) → n + q ≡ 33 → 21 ≤ q → first_of (25 + q) ≤ first_of q + 35798
levels-25 zero q last low =
    let e : 33 ≡ q = omega (arith, last) in
    let at_33 : first_of 58 ≤ first_of 33 + 35798 = omega (arith, first_of-33, first_of-58) in
    subst (λ q. first_of (25 + q) ≤ first_of q + 35798) e at_33
levels-25 (suc n) q last low =
    let e : 25 + suc q ≡ suc (25 + q) = omega arith in
    omega (
      arith,
      levels-25 n (suc q) (omega arith) (omega arith),
      ap first_of e,
      level q (omega arith),
      level (25 + q) (omega arith),
      rising-each levels 21 12 q rising-32 low (omega arith),
    )
  where
    level : (p : ℕ) → p < 91 → first_of (suc p) ≡ first_of p + slice_index levels p
    level p under =
        let e : 0 + p ≡ p = omega arith in
        omega (
          arith,
          ap (ways 6 1 15) e,
          first_of-suc p,
          count_to-step p,
          row-each (ways 6 1 15) 0 levels row-levels p (omega (arith, under, levels-long)),
        )

-- to 58 pips a rank is less than 35,798 after each position that is at most 24 pips away
pub twenty_five_levels : (r : ℕ) (y : Board) → IsPosition y → r < count_to 58 →
    r < count_to (pips y + 24) → r < rank y + 35798
twenty_five_levels r y there low near = by_place (cases_lt (pips y) 21) (cases_lt (pips y) 34)
  where
    by_place : (pips y < 21) ⊎ (21 ≤ pips y) → (pips y < 34) ⊎ (34 ≤ pips y) →
        r < rank y + 35798
    by_place (inl few) later =
        omega (arith, count_to-rises (pips y + 24) 44 (omega arith), count_to-44)
    by_place (inr from) (inl few) =
        let e : 25 + pips y ≡ suc (pips y + 24) = omega arith in
        omega (
          arith,
          ap first_of e,
          first_of-suc (pips y + 24),
          levels-25 (33 - pips y) (pips y) (omega arith) from,
          (rank_within y there).0,
        )
    by_place (inr from) (inr many) =
        omega (
          arith,
          count_to-58,
          first_of-rises 34 (pips y) many,
          first_of-34,
          (rank_within y there).0,
        )
