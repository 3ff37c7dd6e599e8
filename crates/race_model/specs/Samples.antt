-- A strategy whose rolls can be counted by hand, to compare the definitions with.
-- Source: the bearing-off rules of backgammon.
use Rattle.std.specs.Prelude.{ℕ, ◌+◌, ◌-◌, ◌*◌, nat_le, ◌==◌, if◌then◌else◌}
use Rattle.race_model.specs.Positions.{finished, more}
use Rattle.race_model.specs.Dice.{Throw, number}
use Rattle.race_model.specs.Strategies.{Strategy, stop, turn}

-- the pips that a throw is worth, doubles counted fourfold
abbrev pub worth : Throw → ℕ
worth v =
    if number v.first == number v.second
    then 4 * number v.first
    else number v.first + number v.second

-- one checker on point 6: a throw of 6 pips or more bears
-- it off, and after any other the next one does
unfoldable pub from_six_point : Strategy
from_six_point =
    turn (λ v. more finished (6 - worth v))
    (λ v. if nat_le 6 (worth v) then stop else turn (λ _. finished) (λ _. stop))
