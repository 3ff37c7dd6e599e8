-- Strategies seen over two throws.
use Rattle.std.specs.Prelude.{ℕ, ◌+◌, ◌-◌, ◌*◌, ◌==◌, if◌then◌else◌, List, slice_index_or}
use Rattle.race_model.specs.Prelude.{Board, checkers, finished, Throw, number, Strategy, stop, turn}

-- the place of a throw in a list of 36, from 0 on: by the first die, and then by the second
abbrev pub place_of : Throw → ℕ
place_of v = 6 * (number v.first - 1) + (number v.second - 1)

-- the strategy that plays the first throw as the list says,
-- and goes on in any way where a checker is left then
abbrev pub begins_with : Board → List Board → (Throw → Throw → Board) →
    (Throw → Throw → Strategy) → Strategy
begins_with x plays second later =
    if checkers x == 0
    then stop
    else turn first (λ v. if checkers (first v) == 0 then stop else turn (second v) (later v))
  where
    first : Throw → Board
    first v = slice_index_or plays (place_of v) finished

-- how many of two rolls are needed from x, where the first leads to y
abbrev pub rolls_of_two : Board → Board → ℕ
rolls_of_two x y = if checkers x == 0 then 0 else if checkers y == 0 then 1 else 2
