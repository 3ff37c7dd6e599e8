-- A count of a board file stands behind the counts of fewer throws.
use Rattle.std.proofs.Common.{◌≡◌, ℕ, zero, suc, ◌+◌, ◌-◌, ◌*◌, ◌≤◌, sum_by, refl, arith}
use Rattle.race_model.specs.Prelude.{numbers_from, most_rolls, count_width, count_place, board_length}
use Rattle.race_model.proofs.RightFiles.Places.{sum_by-numbers_next}

-- the widths of the counts of 1 to j throws
widths : (j : ℕ) → sum_by count_width (numbers_from 1 j) ≡ 8 * j + 8 * (j - 11) + 8 * (j - 22)
unfolding numbers_from
widths zero = refl
widths (suc j) = omega (arith, sum_by-numbers_next count_width 1 j, widths j, next j)
  where
    next : (j : ℕ) →
        count_width (1 + j) + (8 * j + 8 * (j - 11) + 8 * (j - 22))
        ≡ 8 * suc j + 8 * (suc j - 11) + 8 * (suc j - 22)
    next j = grind arith

-- where a count begins
pub place_of_widths : (k : ℕ) → 1 ≤ k → k ≤ 34 →
    count_place k ≡ 66 + sum_by count_width (numbers_from 1 (k - 1))
place_of_widths k from to = omega (arith, widths (k - 1))

-- how long a record is
pub length_of_widths : (p : ℕ) → p ≤ 90 →
    board_length p ≡ 66 + sum_by count_width (numbers_from 1 (most_rolls p))
length_of_widths p low = omega (arith, widths (most_rolls p))
