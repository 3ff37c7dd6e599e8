-- The constants that say how many positions have fewer pips are these counts, and no pip count has
-- more than 1,636 positions.
use Rattle.std.proofs.Common.{◌≡◌, ℕ, zero, suc, ◌+◌, ◌*◌, ◌<◌, ◌≤◌, ◌⊎◌, inl, inr, Bool, true, map, replicate, get_or}
use Rattle.std.proofs.Common.{slice_index, refl, sym, ap, ◌∙◌, arith, leb, nat_le, ◌/◌, ◌&&◌, List, [], ◌∷◌, length}
use Rattle.std.specs.List.{range_with_len}
use Rattle.std.proofs.lemmas.Bool.{cases_lt, leb-true, and_parts}
use Rattle.std.proofs.lemmas.List.{get_or-replicate}
use Rattle.std.proofs.lemmas.List.FromFn.{get_or-map-range_with_len}
use Rattle.race_model.specs.Prelude.{Board, IsPosition, pips, rank, first_of}
use Rattle.race_model.proofs.Ranks.RankOrder.{first_of-suc, first_of-rises, rank_within, pips-range}
use Rattle.ranking.specs.declared.firsts.TheConstants.{FIRSTS, LEVELS}
use Rattle.race_model.proofs.Ranks.LevelTable.{levels, firsts}
use Rattle.race_model.proofs.Ranks.PositionTotals.{first_at}

-- the constants are the sums of the table of pip counts
same : FIRSTS ≡ firsts
unfolding levels firsts
same = refl

-- so each of them is the count
pub at_first : (m : ℕ) → m < 92 → slice_index FIRSTS m ≡ first_of m
at_first m low = ap (λ xs. slice_index xs m) same ∙ sym (first_at m low)

-- pip counts whose first positions have at most the ranks b, b + 256, and so on
abbrev are_before : ℕ → List ℕ → Bool
are_before b [] = true
are_before b (p ∷ ps) =
    (nat_le p 90 && nat_le (slice_index FIRSTS p) b) && are_before (256 + b) ps

-- each of these pip counts has first positions of at most such ranks
each_before : (b : ℕ) (ps : List ℕ) → are_before b ps ≡ true → (i : ℕ) → i < length ps →
    (slice_index ps i ≤ 90) × (slice_index FIRSTS (slice_index ps i) ≤ b + 256 * i)
each_before b [] all i low = absurd (omega (arith, low))
each_before b (p ∷ ps) all zero low =
    let parts =
    and_parts (nat_le p 90 && nat_le (slice_index FIRSTS p) b) (are_before (256 + b) ps) all in
    let here = and_parts (nat_le p 90) (nat_le (slice_index FIRSTS p) b) parts.0 in
    (leb-true p 90 here.0, omega (arith, leb-true (slice_index FIRSTS p) b here.1))
each_before b (p ∷ ps) all (suc i) low =
    let parts =
    and_parts (nat_le p 90 && nat_le (slice_index FIRSTS p) b) (are_before (256 + b) ps) all in
    let later = each_before (256 + b) ps parts.1 i (omega (arith, low)) in
    (later.0, omega (arith, later.1))

-- the constants that say the pip count of each 256th rank are at most that
pub level_before : (r : ℕ) → r < 54264 →
    (slice_index LEVELS (r / 256) ≤ 90) × (first_of (slice_index LEVELS (r / 256)) ≤ r)
level_before r low =
    let at = each_before 0 LEVELS table (r / 256) (omega (arith, low, long)) in (
      at.0,
      omega (arith, at.1, at_first (slice_index LEVELS (r / 256)) (omega (arith, at.0))),
    )
  where
    table : are_before 0 LEVELS ≡ true
    table = refl

    long : length LEVELS ≡ 212
    long = refl

-- so it is in the table
is_short : ℕ → Bool
is_short p = nat_le (slice_index FIRSTS (p + 1)) (slice_index FIRSTS p + 1636)

all_short : map is_short (range_with_len 0 91) ≡ replicate 91 true
unfolding is_short
all_short = refl

-- to 90 pips no pip count has more than 1,636 positions
pub level-most : (p : ℕ) → p ≤ 90 → first_of (p + 1) ≤ first_of p + 1636
unfolding is_short
level-most p low =
    omega (
      arith,
      leb-true (slice_index FIRSTS (p + 1)) (slice_index FIRSTS p + 1636) short,
      at_first (p + 1) (omega arith),
      at_first p (omega arith),
    )
  where
    short : is_short p ≡ true
    short =
        sym (get_or-map-range_with_len is_short 0 91 p p true (omega arith) (omega arith))
        ∙ ap (λ xs. get_or xs p true) all_short
        ∙ get_or-replicate 91 p true true (omega arith)

-- n levels have at most n times as many positions as a level can have
pub levels-most : (n p : ℕ) → n + p ≤ 91 → first_of (n + p) ≤ first_of p + n * 1636
levels-most zero p low = omega (arith, ap first_of (none p))
  where
    none : (p : ℕ) → 0 + p ≡ p
    none p = omega arith
levels-most (suc n) p low =
    omega (
      arith,
      ap first_of (more n p),
      level-most (n + p) (omega arith),
      levels-most n p (omega arith),
    )
  where
    more : (n p : ℕ) → suc n + p ≡ n + p + 1
    more n p = omega arith

-- a position, and one of at most 6 pips fewer, are less than 7 levels apart
pub seven_levels : (x y : Board) → IsPosition x → IsPosition y → pips x ≤ pips y + 6 →
    rank x < rank y + 11452
seven_levels x y at there near = by_low (cases_lt (pips y) 84) where
  upper : rank x < first_of (suc (pips x))
  upper = omega (arith, (rank_within x at).1, first_of-suc (pips x))

  by_low : (pips y < 84) ⊎ (84 ≤ pips y) → rank x < rank y + 11452
  by_low (inl below) =
      omega (
        arith,
        upper,
        first_of-rises (suc (pips x)) (7 + pips y) (omega arith),
        levels-most 7 (pips y) (omega arith),
        (rank_within y there).0,
      )
  by_low (inr above) =
      omega (
        arith,
        upper,
        first_of-rises (suc (pips x)) 91 (omega (arith, pips-range x at)),
        levels-most 7 84 (omega arith),
        first_of-rises 84 (pips y) above,
        (rank_within y there).0,
      )
