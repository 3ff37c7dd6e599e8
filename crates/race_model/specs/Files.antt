-- The file: a header, then a record for each rank; and what the records of a database hold. Source:
-- this project's profile.
use Rattle.std.specs.Prelude.{◌≡◌, ℕ, ◌+◌, ◌-◌, ◌*◌, ◌^◌, ◌<◌, ◌≤◌, ◌==◌, if◌then◌else◌, List, ◌++◌}
use Rattle.std.specs.Prelude.{length, take, drop, replicate, slice_index, sum_by, codes}
use Rattle.std.specs.Int.{w16, w32, w128, from_be_bytes, to_be_bytes}
use Rattle.race_model.specs.Positions.{Board, pips}
use Rattle.race_model.specs.Dice.{Throw, roll_index}
use Rattle.race_model.specs.Ranks.{rank, at_rank, count_to, numbers_from}
use Rattle.race_model.specs.Horizon.{most_rolls}
use Rattle.race_model.specs.Books.{Book}
use Rattle.race_model.specs.Versions.{Version, full, compact, version_number, version_by}
use Rattle.race_model.specs.Versions.{greatest_bound, stated_length, record_length}

-- what a version of the file states in its header: its number, its greatest pip bound, and the
-- bytes of a record, or 0 where they go by the pip count; and where the record of a rank begins
pub record Layout : Type 0 where
  pub number : ℕ
  pub greatest : ℕ
  pub stated : ℕ
  pub place : ℕ → ℕ

-- the header of a bound: magic, version, bound, count of records, bytes of a record, reserved
abbrev pub header_by : Layout → ℕ → List ℕ
header_by layout bound =
    codes "EPCTABLE" ++ to_be_bytes w16 layout.number ++ to_be_bytes w16 bound
    ++ to_be_bytes w32 (count_to bound) ++ to_be_bytes w32 layout.stated ++ replicate 12 0

-- where the record of a rank begins, where that of a position of p pips has so many bytes: after
-- the header and the records of all lower ranks
unfoldable pub place_by : (ℕ → ℕ) → ℕ → ℕ
place_by size r = 32 + sum_by (λ k. size (pips (at_rank k))) (numbers_from 0 r)

-- a list of bytes: each of its numbers is under 256, as is what one reads beyond its end
abbrev pub IsBytes : List ℕ → Type 0
IsBytes f = (i : ℕ) → slice_index f i < 256

-- the bytes of a file from a place on
abbrev pub bytes_at : List ℕ → ℕ → ℕ → List ℕ
bytes_at f place n = take n (drop place f)

-- the version that the header states
unfoldable pub version_of : List ℕ → Version
version_of f = version_by (from_be_bytes w16 (bytes_at f 8 2))

-- the pip bound that the header states
unfoldable pub bound_of : List ℕ → ℕ
bound_of f = from_be_bytes w16 (bytes_at f 10 2)

-- a file of a layout: its header, a record for each position of at most its bound, which the layout
-- allows, and nothing after them
pub record IsFileBy (layout : Layout) (f : List ℕ) : Type 0 where
  pub bounded : bound_of f ≤ layout.greatest
  pub headed : take 32 f ≡ header_by layout (bound_of f)
  pub whole : length f ≡ layout.place (count_to (bound_of f))

-- where the record of a rank of a database begins
unfoldable pub record_place : Version → ℕ → ℕ
record_place version = place_by (record_length version)

-- the layout of a database
abbrev pub layout_of : Version → Layout
layout_of version = record {
  number = version_number version;
  greatest = greatest_bound version;
  stated = stated_length version;
  place = record_place version;
}

-- its header
abbrev pub header : Version → ℕ → List ℕ
header version = header_by (layout_of version)

-- a database file, of the version that its header states
abbrev pub IsFile : List ℕ → Type 0
IsFile f = IsFileBy (layout_of (version_of f)) f

-- the share of 0 rolls, as a full record stores it: the whole
-- for the finished position, none for any other
unfoldable pub share_before : ℕ → List ℕ
share_before p = to_be_bytes w128 (if p == 0 then 36 ^ 22 else 0)

-- the shares beyond the most rolls of the pip count, as a full record stores them: none
unfoldable pub shares_after : ℕ → List ℕ
shares_after p = replicate (16 * (22 - most_rolls p)) 0

-- the full record that stored bytes stand for: a compact record leaves out these shares
abbrev pub told_record : Version → ℕ → List ℕ → List ℕ
told_record full p stored = stored
told_record compact p stored =
    take 58 stored ++ (share_before p ++ (drop 58 stored ++ shares_after p))

-- the bytes that a file stores for a rank
abbrev pub stored_at : List ℕ → ℕ → List ℕ
stored_at f r =
    bytes_at f (record_place (version_of f) r) (record_length (version_of f) (pips (at_rank r)))

-- the full record of a rank
abbrev pub record_at : List ℕ → ℕ → List ℕ
record_at f r = told_record (version_of f) (pips (at_rank r)) (stored_at f r)

-- in the bytes of a full record: the numerator over 36 ^ 22 of the mean number of rolls
unfoldable pub mean_of : List ℕ → ℕ
mean_of record_bytes = from_be_bytes w128 (bytes_at record_bytes 0 16)

-- in the bytes of a full record: the rank of the position that a roll leads to
unfoldable pub play_of : List ℕ → ℕ → ℕ
play_of record_bytes roll = from_be_bytes w16 (bytes_at record_bytes (16 + 2 * roll) 2)

-- in the bytes of a full record: the numerator over 36 ^ 22 of the share of exactly k rolls
unfoldable pub share_of : List ℕ → ℕ → ℕ
share_of record_bytes k = from_be_bytes w128 (bytes_at record_bytes (58 + 16 * k) 16)

-- the mean that the record of a rank says
unfoldable pub mean_at : List ℕ → ℕ → ℕ
mean_at f r = mean_of (record_at f r)

-- the rank that the record of a rank says for a roll
unfoldable pub play_at : List ℕ → ℕ → ℕ → ℕ
play_at f r roll = play_of (record_at f r) roll

-- the share of exactly k rolls that the record of a rank says
unfoldable pub spread_at : List ℕ → ℕ → ℕ → ℕ
spread_at f r k = share_of (record_at f r) k

-- the recorded mean of a position, as a numerator over 36 ^ 22
abbrev pub mean : List ℕ → Board → ℕ
mean f x = mean_at f (rank x)

-- the recorded rank of what a throw leads to
abbrev pub play : List ℕ → Board → Throw → ℕ
play f x v = play_at f (rank x) (roll_index v)

-- the recorded share of exactly k rolls, as a numerator over 36 ^ 22
abbrev pub spread : List ℕ → Board → ℕ → ℕ
spread f x k = spread_at f (rank x) k

-- what a file says, as a book, whose numbers are counted over 22 throws
abbrev pub book_of : List ℕ → Book
book_of f = record {
  further = 21;
  bound = bound_of f;
  means = mean_at f;
  plays = play_at f;
  shares = spread_at f;
}
