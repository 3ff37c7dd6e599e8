-- Why a call gives no answer, and the status of that.
use Rattle.std.specs.Prelude.{◌≡◌, ◌↔◌, ℕ, ◌+◌, ◌==◌, nat_lt, nat_le, ◌&&◌, Bool, true, false, if◌then◌else◌}
use Rattle.std.specs.Prelude.{Option, Some, None, Result, Ok, Err}
use Rattle.race_model.specs.Prelude.{Board, checkers, pips, count_to}
use Rattle.bearoff_c.specs.declared.statuses.Refusal.{Refusal}
use Rattle.bearoff_c.specs.declared.statuses.Refusal.TheVariants.{NotOpen, BadRoll, TooMany, OverBound, Finished}
use Rattle.bearoff_c.specs.declared.statuses.Refusal.TheVariants.{NotLegal, Changed, NoRank, BadText}

-- the status: 0 where nothing was refused
abbrev pub status_of : Option Refusal → ℕ
status_of None = 0
status_of (Some NotOpen) = 1
status_of (Some BadRoll) = 2
status_of (Some TooMany) = 3
status_of (Some OverBound) = 4
status_of (Some Finished) = 5
status_of (Some NotLegal) = 6
status_of (Some Changed) = 7
status_of (Some NoRank) = 10
status_of (Some BadText) = 11

-- why a call gave no answer, if it gave none
abbrev pub refusal_in : {T : Type 0} → Result T Refusal → Option Refusal
refusal_in (Ok answer) = None
refusal_in (Err refusal) = Some refusal

-- a status is that of a refusal, or n exactly where nothing is refused so and P holds
pub record IsStatusOr (n : ℕ) (P : Type 0) (refusal : Option Refusal) (status : ℕ) : Type 0 where
  pub last : (status ≡ n) ↔ ((refusal ≡ None) × P)
  pub others : ¬ (status ≡ n) → status ≡ status_of refusal

-- why a database of this bound, which is open or not, tells no numbers of a position
abbrev pub position_refusal : Bool → ℕ → Board → Option Refusal
position_refusal false bound x = Some NotOpen
position_refusal true bound x =
    if nat_lt 15 (checkers x) then Some TooMany
    else if nat_lt bound (pips x) then Some OverBound
    else None

-- why a database, which is open or not, tells nothing of itself
abbrev pub open_refusal : Bool → Option Refusal
open_refusal false = Some NotOpen
open_refusal true = None

-- why a database of this bound, which is open or not, lists nothing of so many ranks from one on
abbrev pub rank_refusal : Bool → ℕ → ℕ → ℕ → Option Refusal
rank_refusal false bound first n = Some NotOpen
rank_refusal true bound first n =
    if nat_lt (count_to bound) (first + n) then Some NoRank else None

-- the first of two tests that refuses
abbrev pub or_else : Option Refusal → Option Refusal → Option Refusal
or_else None later = later
or_else (Some refusal) later = Some refusal

-- two numbers are no roll
abbrev pub roll_refusal : ℕ → ℕ → Option Refusal
roll_refusal one other = if is_die one && is_die other then None else Some BadRoll where
  is_die : ℕ → Bool
  is_die n = nat_le 1 n && nat_le n 6

-- no checker is left
abbrev pub finished_refusal : Board → Option Refusal
finished_refusal x = if checkers x == 0 then Some Finished else None

-- a position has too many checkers
abbrev pub many_refusal : Board → Option Refusal
many_refusal x = if nat_lt 15 (checkers x) then Some TooMany else None

-- why no play of two dice is told
abbrev pub play_refusal : Bool → ℕ → Board → ℕ → ℕ → Option Refusal
play_refusal opened bound x one other =
    or_else (open_refusal opened)
    (or_else (roll_refusal one other)
    (or_else (position_refusal opened bound x) (finished_refusal x)))

-- why no play of two dice from x to y is told, but that the roll doesn't lead there
abbrev pub lead_refusal : Board → ℕ → ℕ → Board → Option Refusal
lead_refusal x one other y = or_else (roll_refusal one other)
    (or_else (many_refusal x) (many_refusal y))

-- why no loss of a play to y is told, but that the roll doesn't lead there: both positions are read
-- before the first one is looked for
abbrev pub loss_refusal : Bool → ℕ → Board → ℕ → ℕ → Board → Option Refusal
loss_refusal opened bound x one other y =
    or_else (open_refusal opened)
    (or_else (lead_refusal x one other y) (play_refusal opened bound x one other))
