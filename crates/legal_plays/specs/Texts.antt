-- The texts of rolls and plays.
use Rattle.std.specs.Prelude.{ℕ, ◌+◌, List, [], ◌∷◌, map}
use Rattle.std.specs.List.{join_with_byte}
use Rattle.race_model.specs.Prelude.{Die, number, Move, move_text}

-- two dice as digits
abbrev pub roll_text : Die → Die → List ℕ
roll_text a b = (48 + number a) ∷ (48 + number b) ∷ []

-- the moves, as 6/5 or 3/off, with a space between each two
abbrev pub play_text : List Move → List ℕ
play_text moves = join_with_byte 32 (map move_text moves)
