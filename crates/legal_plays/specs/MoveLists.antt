-- The code's moves as the moves of `race_model`, whose words say which play is the first and what
-- its text is; and what one die makes of a position, in the words of a run. Source: the bearing-off
-- rules of backgammon.
use Rattle.std.specs.Prelude.{ℕ, List, map, ◌≡◌, ◌⊎◌}
use Rattle.legal_plays.specs.declared.moves.Move.{Move}
use Rattle.race_model.specs.Prelude.{Board, IsFinished, Die, Step}

-- a move by its two points: the one that the checker leaves, and the one that it comes to, or 0
abbrev pub move_of : Move → ℕ × ℕ
move_of m = (m.from, m.to)

-- a list of moves
abbrev pub moves_of : List Move → List (ℕ × ℕ)
moves_of moves = map move_of moves

-- a finished position stays, and any other makes a step
abbrev pub PlaysDie : Board → Die → Board → Type 0
PlaysDie x d y = (IsFinished x × (y ≡ x)) ⊎ ((¬ IsFinished x) × Step x d y)
