-- What a file of any version says, as a book. Source: this project's profile.
use Rattle.std.specs.Prelude.{ℕ, ◌+◌, ◌*◌, min, sum_by}
use Rattle.std.specs.List.{range_with_len}
use Rattle.race_model.specs.Prelude.{Board, count_over, Book, whole_in, follow_in, IsFraction, IsThousandths}
use Rattle.epc_query.specs.Kinds.{rolls_in}

-- the chance to be off within so many rolls, where each play is the recorded one: the shares of all
-- of them, as a numerator over the sequences of a book
abbrev pub chance_in : Book → Board → ℕ → ℕ
chance_in b x n =
    sum_by (count_over (rolls_in b) (follow_in b (rolls_in b) x))
    (range_with_len 0 (min n (rolls_in b) + 1))

-- q thousandths are nearest to the effective pip count, for a total over the sequences of a book
abbrev pub IsRoundedPipsIn : Book → ℕ → ℕ → Type 0
IsRoundedPipsIn b total q =
    (n : ℕ) × (d : ℕ) × IsFraction (49 * total) (6 * whole_in b) n d × IsThousandths n d q
