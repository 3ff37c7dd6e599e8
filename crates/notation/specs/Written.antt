-- How a Position ID is written: the definition of one from the other end.
use Rattle.std.specs.Prelude.{ℕ, ◌+◌, ◌-◌, ◌*◌, ◌/◌, ◌%◌, ◌^◌, ◌==◌, nat_lt, if◌then◌else◌, List, [], ◌∷◌, map}
use Rattle.notation.specs.Letters.{before}
use Rattle.notation.specs.Ids.{key}

-- the letter of a number below 64
abbrev pub letter_of : ℕ → ℕ
letter_of n =
    if nat_lt n 26 then n + 65 else if nat_lt n 52 then n + 71
    else if nat_lt n 62 then n - 4 else if n == 62 then 43 else 47

-- a bit of a number, whose lowest byte comes first, and of each byte the highest bit
abbrev pub bit_from_left : ℕ → ℕ → ℕ
bit_from_left n place = n / 2 ^ before place % 2

-- six such bits from a place on, the first one highest
abbrev pub six_bits : ℕ → ℕ → ℕ
six_bits n place =
    32 * bit_from_left n place + 16 * bit_from_left n (place + 1)
    + 8 * bit_from_left n (place + 2) + 4 * bit_from_left n (place + 3)
    + 2 * bit_from_left n (place + 4) + bit_from_left n (place + 5)

-- the Position ID of the other player's checkers and those of the player on roll
abbrev pub position_id : List ℕ → List ℕ → List ℕ
position_id theirs mine = map (λ k. letter_of (six_bits (key theirs (key mine 0)) (6 * k)))
    (0 ∷ 1 ∷ 2 ∷ 3 ∷ 4 ∷ 5 ∷ 6 ∷ 7 ∷ 8 ∷ 9 ∷ 10 ∷ 11 ∷ 12 ∷ 13 ∷ [])
