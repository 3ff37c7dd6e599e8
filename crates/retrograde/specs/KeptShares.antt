-- The shares of records in a room, where each number stands low byte first. Source: this project's
-- profile.
use Rattle.std.specs.Prelude.{◌≡◌, ℕ, ◌+◌, ◌-◌, ◌*◌, ◌%◌, ◌<◌, ◌≤◌, List, map, slice_index}
use Rattle.std.specs.List.{range_with_len}
use Rattle.std.specs.Int.{w128, from_le_bytes}
use Rattle.race_model.specs.Prelude.{bytes_at}

-- the shares of 0 to 22 rolls in bytes, 16 bytes each, and none beyond the bytes
unfoldable pub shares_in : List ℕ → List ℕ
shares_in bytes = map (λ k. from_le_bytes w128 (bytes_at bytes (16 * k) 16)) (range_with_len 0 23)

-- those of a rank in a room: they begin at its place and end at that of the next rank
unfoldable pub shares_kept : List ℕ → List ℕ → ℕ → List ℕ
shares_kept room places r =
    shares_in
    (bytes_at room (slice_index places r)
    (slice_index places (r + 1) - slice_index places r))

-- the places of n ranks, and where the next one begins: each rank has at most 23 shares, which end
-- before any later one begins, and the last ones within a room of so many bytes
pub record ArePlaces (places : List ℕ) (n room : ℕ) : Type 0 where
  pub next : (r : ℕ) → r < n → slice_index places r ≤ slice_index places (r + 1)
  pub few : (r : ℕ) → r < n → slice_index places (r + 1) ≤ slice_index places r + 368
  pub parts : (r : ℕ) → r < n → (slice_index places (r + 1) - slice_index places r) % 16 ≡ 0
  pub rise : (r : ℕ) → r ≤ n → slice_index places r ≤ slice_index places n
  pub inside : slice_index places n ≤ room
