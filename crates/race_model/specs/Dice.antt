-- Dice, throws and rolls. Source: the rules of backgammon;
-- the index of a roll is this project's profile.
use Rattle.std.specs.Prelude.{ℕ, ◌+◌, ◌-◌, ◌*◌, ◌/◌, ◌≤◌, min, max, ◌==◌, if◌then◌else◌, List, []}
use Rattle.std.specs.Prelude.{◌∷◌, flat_map, map, sum_by, slice_index_or}

-- a die
pub data Die : Type 0 where
  one : Die
  two : Die
  three : Die
  four : Die
  five : Die
  six : Die

-- the number that a die shows
abbrev pub number : Die → ℕ
number one = 1
number two = 2
number three = 3
number four = 4
number five = 5
number six = 6

-- two dice in order: which die was which is seen
pub record Throw : Type 0 where
  pub first : Die
  pub second : Die

-- the same dice, thrown the other way round
abbrev pub reversed : Throw → Throw
reversed v = record { first = v.second; second = v.first }

-- the six dice
abbrev pub dice : List Die
dice = one ∷ two ∷ three ∷ four ∷ five ∷ six ∷ []

-- the 36 throws, which count equally
unfoldable pub throws : List Throw
throws = flat_map (λ a. map (λ b. record { first = a; second = b }) dice) dice

-- a roll is two dice without order: the throw whose first die is not the smaller one
abbrev pub IsRoll : Throw → Type 0
IsRoll v = number v.second ≤ number v.first

-- the 21 rolls, in the order of their index
unfoldable pub all_rolls : List Throw
all_rolls = flat_map (λ a. map (λ b. record { first = a; second = b }) (dice_to a)) dice where
  dice_to : Die → List Die
  dice_to one = one ∷ []
  dice_to two = one ∷ two ∷ []
  dice_to three = one ∷ two ∷ three ∷ []
  dice_to four = one ∷ two ∷ three ∷ four ∷ []
  dice_to five = one ∷ two ∷ three ∷ four ∷ five ∷ []
  dice_to six = dice

-- the roll of an index, and the roll 11 where there is none
unfoldable pub roll_at : ℕ → Throw
roll_at i = slice_index_or all_rolls i (record { first = one; second = one })

-- the place of a throw's roll among the 21 rolls, from 0 on
abbrev pub roll_index : Throw → ℕ
roll_index v = high * (high - 1) / 2 + low - 1 where
  high : ℕ
  high = max (number v.first) (number v.second)

  low : ℕ
  low = min (number v.first) (number v.second)

-- how many of the 36 throws are this roll: one for a double, else two
abbrev pub weight : Throw → ℕ
weight v = if number v.first == number v.second then 1 else 2

-- the sum of a number over the 36 throws, by the 21 rolls and their weights
abbrev pub weighted : (Throw → ℕ) → ℕ
weighted g = sum_by (λ v. weight v * g v) all_rolls
