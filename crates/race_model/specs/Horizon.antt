-- How many rolls a game can take at most, however it is played.
use Rattle.std.specs.Prelude.{ℕ, zero, suc, ◌+◌, ◌*◌, ◌/◌, min, ◌==◌, nat_le, if◌then◌else◌}

-- the most rolls of a pip count. Each position has the weight 2 * pips + checkers, and 1 more
-- where a checker stands above point 1; each turn after which a checker remains takes at least 6
-- from it. So this is the sixth of the greatest weight of that many pips, rounded up
abbrev pub most_rolls : ℕ → ℕ
most_rolls zero = 0
most_rolls (suc p) = (2 * suc p + min (suc p) 15 + 1 + 5) / 6

-- the number of exactly k rolls of a position of p pips, where those of 1 to the most rolls are
-- stored: the finished position has them all at 0 rolls, no other has any there, and there are
-- none beyond the most
abbrev pub told_by : ℕ → ℕ → (ℕ → ℕ) → ℕ → ℕ
told_by all p stored zero = if p == 0 then all else 0
told_by all p stored (suc k) = if nat_le (suc k) (most_rolls p) then stored (suc k) else 0
