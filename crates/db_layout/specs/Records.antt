-- The bytes of a record.
use Rattle.std.specs.Prelude.{◌≡◌, ℕ, ◌<◌, ◌≤◌, List, ◌++◌, length, take, drop, flat_map, slice_index}
use Rattle.std.specs.Int.{w16, w128, to_be_bytes}
use Rattle.race_model.specs.Prelude.{Version, version_by, version_number, first_share, share_count, record_length}
use Rattle.race_model.specs.Prelude.{told_record, mean_of, play_of, share_of, told_share}

-- a number that is one of a version
abbrev pub IsVersion : ℕ → Type 0
IsVersion n = n ≡ version_number (version_by n)

-- a rank in 2 bytes, high byte first
unfoldable pub short_bytes : ℕ → List ℕ
short_bytes n = to_be_bytes w16 n

-- a numerator in 16 bytes, high byte first
unfoldable pub wide_bytes : ℕ → List ℕ
wide_bytes n = to_be_bytes w128 n

-- of the shares of 0 to 22 rolls those that the record of a position of p pips stores
abbrev pub stored_shares : Version → ℕ → List ℕ → List ℕ
stored_shares version p shares = take (share_count version p) (drop (first_share version) shares)

-- no share is lost: each is told by those that are stored
abbrev pub IsHeld : Version → ℕ → List ℕ → Type 0
IsHeld version p shares =
    (k : ℕ) → k ≤ 22 → slice_index shares k ≡ told_share version p (slice_index shares) k

-- the mean, the ranks that are played to with the rolls,
-- and the shares that are stored, one after another
unfoldable pub record_of : Version → ℕ → ℕ → List ℕ → List ℕ → List ℕ
record_of version p mean plays shares =
    wide_bytes mean
    ++ (flat_map short_bytes plays ++ flat_map wide_bytes (stored_shares version p shares))

-- as many bytes as the record of a position of p pips has, which tell
-- this mean, these ranks for the rolls 0 to 20, and these shares of 0 to 22 rolls
pub record IsRecordOf (version : Version) (p : ℕ) (bytes : List ℕ) (mean : ℕ)
    (plays shares : List ℕ) : Type 0 where
  pub len : length bytes ≡ record_length version p
  pub mean_is : mean_of (told_record version p bytes) ≡ mean
  pub play_is : (i : ℕ) → i < 21 → play_of (told_record version p bytes) i ≡ slice_index plays i
  pub share_is : (k : ℕ) → k ≤ 22 →
      share_of (told_record version p bytes) k ≡ slice_index shares k
