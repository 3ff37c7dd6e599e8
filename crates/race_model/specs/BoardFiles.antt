-- The board file: every position of the home board, to 90 pips, whose games take at most 33 rolls.
-- A mean is a numerator over 36 ^ 33, and a share is stored as a count of sequences. Source: this
-- project's profile.
use Rattle.std.specs.Prelude.{ℕ, ◌+◌, ◌-◌, ◌*◌, ◌^◌, nat_le, if◌then◌else◌}
use Rattle.std.specs.Prelude.{List}
use Rattle.std.specs.Int.{w16, w64, w128, from_be_bytes}
use Rattle.race_model.specs.Positions.{pips}
use Rattle.race_model.specs.Ranks.{at_rank}
use Rattle.race_model.specs.Horizon.{most_rolls, told_by}
use Rattle.race_model.specs.Files.{Layout, IsFileBy, header_by, place_by, bytes_at, bound_of}
use Rattle.race_model.specs.Books.{Book}

-- a number in two parts, of which the lower one is less than 36 ^ 11
pub record Parts : Type 0 where
  pub upper : ℕ
  pub lower : ℕ

-- the number that two parts make
abbrev pub value_of_parts : Parts → ℕ
value_of_parts parts = parts.upper * 36 ^ 11 + parts.lower

-- the bytes of the count of sequences of k throws: 8, from 12 throws on 16, and from 23 on 24
abbrev pub count_width : ℕ → ℕ
count_width k = if nat_le k 11 then 8 else if nat_le k 22 then 16 else 24

-- where in a record it begins, for k from 1 on: after the mean, the plays, and the counts of fewer
-- throws, so that it is 66 and the sum of their widths (`law_widths`)
abbrev pub count_place : ℕ → ℕ
count_place k = 66 + 8 * (k - 1) + 8 * (k - 12) + 8 * (k - 23)

-- the bytes of the record of a position of p pips, whose counts go to its most rolls
abbrev pub board_length : ℕ → ℕ
board_length p = count_place (most_rolls p + 1)

-- where the record of a rank begins
unfoldable pub board_place : ℕ → ℕ
board_place = place_by board_length

-- version 3, to 90 pips, and nothing for the bytes of a record
abbrev pub board_layout : Layout
board_layout = record { number = 3; greatest = 90; stated = 0; place = board_place }

-- its header
abbrev pub board_header : ℕ → List ℕ
board_header = header_by board_layout

-- a board file
abbrev pub IsBoardFile : List ℕ → Type 0
IsBoardFile = IsFileBy board_layout

-- the bytes of the record of a rank
abbrev pub board_record : List ℕ → ℕ → List ℕ
board_record f r = bytes_at f (board_place r) (board_length (pips (at_rank r)))

-- in the bytes of a record: the mean
unfoldable pub mean_parts : List ℕ → Parts
mean_parts record_bytes = record {
  upper = from_be_bytes w128 (bytes_at record_bytes 0 16);
  lower = from_be_bytes w64 (bytes_at record_bytes 16 8);
}

-- in the bytes of a record: the rank of the position that a roll leads to
unfoldable pub board_play_of : List ℕ → ℕ → ℕ
board_play_of record_bytes roll = from_be_bytes w16 (bytes_at record_bytes (24 + 2 * roll) 2)

-- in the bytes of a record: of the sequences of k throws, how many end the game with the last one.
-- To 11 throws there is one number, of at most 36 ^ 11
unfoldable pub count_parts : List ℕ → ℕ → Parts
count_parts record_bytes k =
    if nat_le k 11 then record { upper = 0; lower = word (count_place k) }
    else if nat_le k 22 then record {
      upper = word (count_place k);
      lower = word (count_place k + 8);
    } else record {
      upper = from_be_bytes w128 (bytes_at record_bytes (count_place k) 16);
      lower = word (count_place k + 16);
    }
  where
    word : ℕ → ℕ
    word place = from_be_bytes w64 (bytes_at record_bytes place 8)

-- the count of k throws that the record of a position of p pips tells
abbrev pub told_count : ℕ → List ℕ → ℕ → ℕ
told_count p record_bytes = told_by 1 p (λ k. value_of_parts (count_parts record_bytes k))

-- the count of k throws that is told for a rank
unfoldable pub count_at : List ℕ → ℕ → ℕ → ℕ
count_at f r k = told_count (pips (at_rank r)) (board_record f r) k

-- what a board file says, as a book: its shares are counts of longer sequences
abbrev pub board_book : List ℕ → Book
board_book f = record {
  further = 32;
  bound = bound_of f;
  means = λ r. value_of_parts (mean_parts (board_record f r));
  plays = λ r. board_play_of (board_record f r);
  shares = λ r k. count_at f r k * 36 ^ (33 - k);
}
