-- The counts of a record as words of 64 bits.
use Rattle.std.specs.Prelude.{◌≡◌, ℕ, zero, suc, ◌+◌, ◌*◌, ◌<◌, nat_le, ◌==◌, if◌then◌else◌}
use Rattle.std.specs.Prelude.{List, length, slice_index}
use Rattle.std.specs.Int.{w64, from_be_bytes}
use Rattle.race_model.specs.Prelude.{pips, roll_index, weighted, at_rank, bytes_at, board_record, board_length}
use Rattle.race_model.specs.Prelude.{count_at}

-- a word of the counts of at most 22 throws that are told for a rank: that of no throw, and then
-- those that stand in its record, or 0 beyond them
unfoldable pub word_at : List ℕ → ℕ → ℕ → ℕ
word_at f r zero = count_at f r 0
word_at f r (suc i) =
    if nat_le (74 + 8 * i) (board_length (pips (at_rank r)))
    then from_be_bytes w64 (bytes_at (board_record f r) (66 + 8 * i) 8) else 0

-- the same word, where these are the bytes of the counts of 1 to 22 throws: that of no throw is 1
-- where there are none
unfoldable pub word_of : List ℕ → ℕ → ℕ
word_of bytes zero = if length bytes == 0 then 1 else 0
word_of bytes (suc i) =
    if nat_le (8 * i + 8) (length bytes) then from_be_bytes w64 (bytes_at bytes (8 * i) 8) else 0

-- six numbers, added up: five of them twice, and the last one once
abbrev pub six : (ℕ → ℕ) → ℕ
six g = 2 * (g 0 + g 1 + g 2 + g 3 + g 4) + g 5

-- the sums of the words of what 21 plays lead to, with the weights of the rolls
abbrev pub AreWordSums : List ℕ → (ℕ → ℕ) → List ℕ → Type 0
AreWordSums f plays sums =
    (i : ℕ) → i < 34 → slice_index sums i ≡ weighted (λ v. word_at f (plays (roll_index v)) i)
