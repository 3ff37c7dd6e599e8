-- How a number stands for a die, and two dice for a roll.
use Rattle.std.proofs.Common.{◌≡◌, ℕ, zero, suc, ◌≤◌, arith, refl}
use Rattle.std.specs.Prelude.{nat_lt, if◌then◌else◌}
use Rattle.race_model.specs.Prelude.{Die, Throw, number, one, two, three, four, five, six}

-- the die that shows this number; which one it is for a number that no die shows is never asked
abbrev pub face : ℕ → Die
face zero = one
face (suc zero) = one
face (suc (suc zero)) = two
face (suc (suc (suc zero))) = three
face (suc (suc (suc (suc zero)))) = four
face (suc (suc (suc (suc (suc zero))))) = five
face (suc (suc (suc (suc (suc (suc n)))))) = six

-- the die of a number shows it
pub number-face : (n : ℕ) → 1 ≤ n → n ≤ 6 → number (face n) ≡ n
number-face zero low high = absurd (omega arith)
number-face (suc zero) low high = refl
number-face (suc (suc zero)) low high = refl
number-face (suc (suc (suc zero))) low high = refl
number-face (suc (suc (suc (suc zero)))) low high = refl
number-face (suc (suc (suc (suc (suc zero))))) low high = refl
number-face (suc (suc (suc (suc (suc (suc zero)))))) low high = refl
number-face (suc (suc (suc (suc (suc (suc (suc n))))))) low high = absurd (omega arith)

-- the roll of two dice, in either order
abbrev pub roll_of : Die → Die → Throw
roll_of a b =
    if nat_lt (number a) (number b)
    then record { first = b; second = a }
    else record { first = a; second = b }
