-- What is known of the positions of the last levels of pips.
use Rattle.std.specs.Prelude.{◌≡◌, ◌⊎◌, ℕ, zero, suc, ◌+◌, ◌-◌, ◌%◌, ◌<◌, ◌≤◌, ◌==◌, if◌then◌else◌}
use Rattle.std.specs.Prelude.{List, [], ◌∷◌, length, replicate, slice_index, slice_index_or, slice_set}
use Rattle.race_model.specs.Prelude.{Board, IsPosition, IsFinished, pips, Die, one, two, three, four, five, six, number}
use Rattle.race_model.specs.Prelude.{Run, rank, count_to, IsBestOf}
use Rattle.least_plays.specs.declared.room.Row.{Row}
use Rattle.least_plays.specs.declared.room.LeastPlays.{LeastPlays}
use Rattle.least_plays.specs.declared.starts.Start.{Start}
use Rattle.least_plays.specs.declared.starts.Starts.{Starts}

-- r is the best rank to which the dice, one after another, lead from x
abbrev pub IsBestAfter : (ℕ → ℕ) → Board → List Die → ℕ → Type 0
IsBestAfter mean x dice r = IsBestOf mean (Run x dice) r

-- so many rows do for the ranks up to one: as many as do for any, or one for each of them
pub record HasRows (rows r : ℕ) : Type 0 where
  pub few : rows ≤ 11452
  pub own : (r < rows) ⊎ (rows ≡ 11452)

-- the row of a rank: rows are used again, since those of the last levels alone are read
unfoldable pub row_in : List Row → ℕ → Row
row_in rows r = slice_index_or rows (r % length rows) (record { after = [] })

-- what is kept of a rank for a die that is played n times: nothing but the rank itself for none
unfoldable pub number_in : List Row → ℕ → Die → ℕ → ℕ
number_in rows r d zero = r
number_in rows r d (suc n) =
    slice_index (slice_index_or (row_in rows r).after (number d - 1) []) n

-- of each position below the next rank to which a step from there on can lead, the best ranks
-- after each die once, twice and three times are kept
pub record Knows {n : ℕ} (mean : ℕ → ℕ) (plays : LeastPlays n) (next : ℕ) : Type 0 where
  pub each : (y : Board) → IsPosition y → rank y < next → next < count_to (pips y + 6) →
      (d : Die) (n : ℕ) → n < 3 →
      IsBestAfter mean y (d ∷ replicate n d) (number_in plays.rows (rank y) d (suc n))

-- x is the next position, it is unfinished, and the means of all lower ranks are there
pub record IsNext {n : ℕ} (mean : ℕ → ℕ) (count : ℕ) (plays : LeastPlays n) (x : Board) : Type 0
  where
    pub position : IsPosition x
    pub unfinished : ¬ IsFinished x
    pub held : rank x ≤ count
    pub known : Knows mean plays (rank x)

-- how often the other die of a roll is played after the first
abbrev pub dice_left : Die → Die → ℕ
dice_left a b = if number a == number b then 3 else 1

-- what is kept of a rank, for what may follow a die: each die once, by its number, and the same die
-- no time, twice and three times
unfoldable pub kept_in : List Row → ℕ → Die → List ℕ
kept_in rows r d =
    once one ∷ once two ∷ once three ∷ once four ∷ once five ∷ once six ∷ again 0 ∷ again 2
    ∷ again 3 ∷ []
  where
    once : Die → ℕ
    once e = number_in rows r e 1

    again : ℕ → ℕ
    again n = number_in rows r d n

-- the best ranks from x with a die first
pub record IsStart (mean : ℕ → ℕ) (x : Board) (d : Die) (start : Start) : Type 0 where
  pub after : (n : ℕ) → n < 3 → IsBestAfter mean x (d ∷ replicate n d) (slice_index start.after n)
  pub plays : (e : Die) →
      IsBestAfter mean x (d ∷ replicate (dice_left d e) e) (slice_index start.plays (number e - 1))

-- the best ranks with a die first, of the nine numbers for what may follow it
unfoldable pub start_of : List ℕ → ℕ → Start
start_of best own = record {
  after = slice_index best 6 ∷ slice_index best own ∷ slice_index best 7 ∷ [];
  plays = slice_set (slice_index best 0 ∷ slice_index best 1 ∷ slice_index best 2
      ∷ slice_index best 3 ∷ slice_index best 4 ∷ slice_index best 5 ∷ []) own (slice_index best 8);
}

-- the best ranks from an unfinished position with each die first
pub record AreStarts (mean : ℕ → ℕ) (count : ℕ) (starts : Starts) : Type 0 where
  pub position : IsPosition starts.position
  pub unfinished : ¬ IsFinished starts.position
  pub held : rank starts.position ≤ count
  pub each : (d : Die) (other : Start) →
      IsStart mean starts.position d (slice_index_or starts.dice (number d - 1) other)
