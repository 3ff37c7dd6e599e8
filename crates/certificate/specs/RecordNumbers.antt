-- The numbers of a record, and the mean and spread equations over sums of what is recorded for the
-- rolls.
use Rattle.std.specs.Prelude.{◌≡◌, ℕ, zero, suc, ◌+◌, ◌*◌, ◌<◌, ◌≤◌, List, map, slice_index}
use Rattle.std.specs.Prelude.{Bool, if◌then◌else◌, Option, Some, None}
use Rattle.std.specs.List.{range_with_len}
use Rattle.race_model.specs.Prelude.{Board, IsFinished, Throw, weighted, play_of, share_of, mean_at, spread_at, play}
use Rattle.race_model.specs.Prelude.{whole}
use Rattle.fixed_fraction.specs.Totals.{Totals}

-- the plays of the rolls 0 to 20 in the bytes of a record
unfoldable pub plays_of : List ℕ → List ℕ
plays_of bytes = map (play_of bytes) (range_with_len 0 21)

-- the shares of 0 to 22 rolls in the bytes of a record
unfoldable pub shares_of : List ℕ → List ℕ
shares_of bytes = map (share_of bytes) (range_with_len 0 23)

-- the sums of a position that has some, and none of the finished one
abbrev pub sums_if : Bool → Totals → Option Totals
sums_if some sums = if some then Some sums else None

-- the mean of a record is that of these sums, or of no roll where there are none, as for the
-- finished position
abbrev pub IsMeanOf : ℕ → Option Totals → Type 0
IsMeanOf mean None = mean ≡ 0
IsMeanOf mean (Some sums) = (mean ≤ 22 * whole) × (36 * mean ≡ 36 * whole + sums.mean)

-- the share of exactly k rolls is that of these sums, or of no roll where there are none
abbrev pub IsShareOf : (ℕ → ℕ) → Option Totals → ℕ → Type 0
IsShareOf share None zero = share 0 ≡ whole
IsShareOf share None (suc k) = share (suc k) ≡ 0
IsShareOf share (Some sums) zero = share 0 ≡ 0
IsShareOf share (Some sums) (suc k) = 36 * share (suc k) ≡ slice_index sums.shares k

-- the mean of a record is right, and of its shares to so many rolls that of exactly k is the first
-- that isn't
pub record IsFirstWrong (mean : Type 0) (share : ℕ → Type 0) (most k : ℕ) : Type 0 where
  pub few : k ≤ most
  pub mean_is : mean
  pub earlier : (j : ℕ) → j < k → share j
  pub wrong : ¬ share k

-- the mean of the position that a throw is recorded to lead to
abbrev pub recorded_mean : List ℕ → Board → Throw → ℕ
recorded_mean f x v = mean_at f (play f x v)

-- the sums of what is recorded for the 36 throws from a position that isn't finished
pub record AreTotalsAt (f : List ℕ) (x : Board) (sums : Totals) : Type 0 where
  pub unfinished : ¬ IsFinished x
  pub means : sums.mean ≡ weighted (recorded_mean f x)
  pub each : (k : ℕ) → k < 23 →
      slice_index sums.shares k ≡ weighted (λ v. spread_at f (play f x v) k)

-- no sums are of the finished position, and of another those of what is recorded for the 36 throws
abbrev pub AreSumsOf : List ℕ → Board → Option Totals → Type 0
AreSumsOf f x None = IsFinished x
AreSumsOf f x (Some sums) = AreTotalsAt f x sums
