-- The two versions of a database file. Version 1 records each position in full; version 2 leaves
-- out the shares that are known without being stored.
use Rattle.std.specs.Prelude.{ℕ, ◌+◌, ◌*◌, ◌==◌, if◌then◌else◌}
use Rattle.race_model.specs.Horizon.{most_rolls}

-- a version: its records are full or compact
pub data Version : Type 0 where
  full : Version
  compact : Version

-- the number that the header states
abbrev pub version_number : Version → ℕ
version_number full = 1
version_number compact = 2

-- the version of a number that a header states; that it is one of the two numbers is asked apart
abbrev pub version_by : ℕ → Version
version_by n = if n == 2 then compact else full

-- the greatest pip bound of a file
abbrev pub greatest_bound : Version → ℕ
greatest_bound full = 44
greatest_bound compact = 58

-- what the header states as the bytes of a record: nothing, where they go by the pip count
abbrev pub stated_length : Version → ℕ
stated_length full = 426
stated_length compact = 0

-- the number of rolls whose share is the first that a record stores
abbrev pub first_share : Version → ℕ
first_share full = 0
first_share compact = 1

-- how many shares the record of a position of p pips stores:
-- those of 0 to 22 rolls, or those of 1 to the most rolls
abbrev pub share_count : Version → ℕ → ℕ
share_count full p = 23
share_count compact p = most_rolls p

-- the bytes of the record of a position of p pips: a mean, 21 plays, and the shares
abbrev pub record_length : Version → ℕ → ℕ
record_length version p = 58 + 16 * share_count version p
