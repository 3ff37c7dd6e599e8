-- Letters of base 64, and the numbers that their bits spell. Source: RFC 4648.
use Rattle.std.specs.Prelude.{ℕ, zero, suc, ◌+◌, ◌-◌, ◌*◌, ◌/◌, ◌%◌, ◌^◌, Bool, ◌&&◌, ◌||◌, ◌==◌}
use Rattle.std.specs.Prelude.{nat_le, if◌then◌else◌, List, slice_index}

-- whether a character is one of the 64: A to Z, a to z, 0 to 9, + and /
abbrev pub is_letter : ℕ → Bool
is_letter c = (nat_le 65 c && nat_le c 90) || (nat_le 97 c && nat_le c 122)
    || (nat_le 48 c && nat_le c 57) || c == 43 || c == 47

-- its place among the 64, of which the bits are taken from the highest one on
abbrev pub place_of : ℕ → ℕ
place_of c =
    if nat_le 65 c && nat_le c 90 then c - 65 else if nat_le 97 c && nat_le c 122 then c - 71
    else if nat_le 48 c && nat_le c 57 then c + 4 else if c == 43 then 62 else 63

-- how many bits stand before a bit, where it is the lowest one of its byte that comes first
abbrev pub before : ℕ → ℕ
before i = 8 * (i / 8) + (7 - i % 8)

-- a bit of the bytes that letters spell, the lowest one of each byte first
abbrev pub bit : List ℕ → ℕ → ℕ
bit text i = place_of (slice_index text (before i / 6)) / 2 ^ (5 - before i % 6) % 2

-- the number of so many bits from one on, the lowest one first
abbrev pub field : List ℕ → ℕ → ℕ → ℕ
field text first zero = 0
field text first (suc k) = bit text first + 2 * field text (first + 1) k
