-- Numbers of 192 bits in three words.
use Rattle.std.specs.Prelude.{ℕ, ◌+◌, ◌*◌, ◌^◌, slice_index}
use Rattle.bearoff_c.specs.declared.numbers.Long.{Long}

-- the number whose words these are, the greatest first
abbrev pub long_number_of : Long → ℕ
long_number_of long =
    2 ^ 128 * slice_index long.words 0 + 2 ^ 64 * slice_index long.words 1
    + slice_index long.words 2
