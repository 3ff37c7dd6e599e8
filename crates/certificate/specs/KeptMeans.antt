-- Where the means of the last ranks are kept.
use Rattle.std.specs.Prelude.{ℕ, ◌+◌, ◌-◌, ◌<◌, nat_lt, if◌then◌else◌, List, slice_index}
use Rattle.race_model.specs.Prelude.{Board, IsPosition, pips, rank, count_to}

-- the place of a rank: those from the room on have places again from the first one on
unfoldable pub kept_place : ℕ → ℕ → ℕ
kept_place room r = if nat_lt r room then r else r - room

-- the mean that is kept of a rank
unfoldable pub kept_mean : ℕ → List ℕ → ℕ → ℕ
kept_mean room means r = slice_index means (kept_place room r)

-- the means of a rank and of all positions to which a throw from there can lead have room at once
abbrev pub HasRoom : ℕ → ℕ → Type 0
HasRoom room r =
    (z : Board) → IsPosition z → r < count_to (pips z + 24) → r < rank z + room
