-- What reading a line gives, in the words of the definitions.
use Rattle.std.specs.Prelude.{◌≡◌, ◌≢◌, ℕ, ◌<◌, ◌≤◌, ◌⊎◌, List, [], ◌∷◌, ◌++◌, codes, Result, Ok, Err}
use Rattle.race_model.specs.Prelude.{Board, checkers, pips, IsPositionText, Throw, Query as Asked, mean_query}
use Rattle.race_model.specs.Prelude.{dist_query, play_query, loss_query, moves_query, rank_query, IsQuery, HasTooMany}
use Rattle.race_model.specs.Prelude.{IsRollText, words, subject, AsksOfFinished, HasResult}
use Rattle.home_board.specs.declared.position.Position.{Position}
use Rattle.legal_plays.specs.declared.roll.Roll.{Roll}
use Rattle.query_text.specs.declared.query.Word.{Word}
use Rattle.query_text.specs.declared.query.Word.TheVariants.{Mean as AsksMean, Dist as AsksDist}
use Rattle.query_text.specs.declared.query.Word.TheVariants.{Play as AsksPlay, Loss as AsksLoss}
use Rattle.query_text.specs.declared.query.Word.TheVariants.{Moves as AsksMoves, Rank as AsksRank}
use Rattle.query_text.specs.declared.query.Query.{Query}
use Rattle.query_text.specs.declared.query.Query.TheVariants.{Mean, Dist, Play, Loss, Moves, Rank}
use Rattle.query_text.specs.declared.query.LineFault.{LineFault}
use Rattle.query_text.specs.declared.query.LineFault.TheVariants.{BadLine, TooMany}

-- the word of a kind of query
abbrev pub text_of_word : Word → List ℕ
text_of_word AsksMean = codes "mean"
text_of_word AsksDist = codes "dist"
text_of_word AsksPlay = codes "play"
text_of_word AsksLoss = codes "loss"
text_of_word AsksMoves = codes "moves"
text_of_word AsksRank = codes "rank"

-- the query that the code's value stands for
abbrev pub asked : Query → Asked
asked (Mean x) = mean_query x
asked (Dist x) = dist_query x
asked (Play x v) = play_query x v
asked (Loss x v y) = loss_query x v y
asked (Moves x v) = moves_query x v
asked (Rank x) = rank_query x

-- the text states a position: this one, or one of too many checkers, or none
abbrev pub IsPositionReading : List ℕ → Result Position LineFault → Type 0
IsPositionReading text (Ok x) = IsPositionText text x × (¬ (15 < checkers x))
IsPositionReading text (Err BadLine) = (x : Board) → ¬ IsPositionText text x
IsPositionReading text (Err TooMany) = (x : Board) × IsPositionText text x × (15 < checkers x)

-- the text states a position and a roll
pub record IsThrowText (text : List ℕ) (x : Board) (v : Throw) : Type 0 where
  pub position : List ℕ
  pub position_is : IsPositionText position x
  pub roll : List ℕ
  pub roll_is : IsRollText roll v
  pub joined : text ≡ position ++ (32 ∷ roll)

-- the text states a position and a roll: these, or a position of too many checkers, or not
abbrev pub IsThrowReading : List ℕ → Result (Position × Roll) LineFault → Type 0
IsThrowReading text (Ok told) = IsThrowText text told.0 told.1 × (¬ (15 < checkers told.0))
IsThrowReading text (Err BadLine) =
    (p r : List ℕ) (x : Board) (v : Throw) → IsPositionText p x → IsRollText r v
    → words text ≢ p ∷ r ∷ []
IsThrowReading text (Err TooMany) = (x : Board) × (v : Throw) × IsThrowText text x v
    × (15 < checkers x)

-- the text states a position, a roll and a result
pub record IsResultText (text : List ℕ) (x : Board) (v : Throw) (y : Board) : Type 0 where
  pub throw : List ℕ
  pub throw_is : IsThrowText throw x v
  pub position : List ℕ
  pub position_is : IsPositionText position y
  pub joined : text ≡ throw ++ (32 ∷ position)

-- the text states a position, a roll and a result: these, or a position of too many checkers, or
-- not
abbrev pub IsResultReading : List ℕ → Result (Position × Roll × Position) LineFault → Type 0
IsResultReading text (Ok told) =
    IsResultText text told.0 told.1 told.2 × (¬ ((15 < checkers told.0) ⊎ (15 < checkers told.2)))
IsResultReading text (Err BadLine) = (p r q : List ℕ) (x : Board) (v : Throw) (y : Board)
    → IsPositionText p x → IsRollText r v → IsPositionText q y → words text ≢ p ∷ r ∷ q ∷ []
IsResultReading text (Err TooMany) = (x : Board) × (v : Throw) × (y : Board)
    × IsResultText text x v y × ((15 < checkers x) ⊎ (15 < checkers y))

-- both readings together: no position comes before one of too many checkers
abbrev pub both : Result Position LineFault → Roll → Result Position LineFault
    → Result (Position × Roll × Position) LineFault
both (Ok x) v (Ok y) = Ok (x, v, y)
both (Ok x) v (Err fault) = Err fault
both (Err BadLine) v reading = Err BadLine
both (Err TooMany) v (Ok y) = Err TooMany
both (Err TooMany) v (Err fault) = Err fault

-- what stands after the word of a kind is refused
abbrev pub IsRestFault : Word → List ℕ → LineFault → Type 0
IsRestFault AsksMean rest fault = IsPositionReading rest (Err fault)
IsRestFault AsksDist rest fault = IsPositionReading rest (Err fault)
IsRestFault AsksPlay rest fault = IsThrowReading rest (Err fault)
IsRestFault AsksLoss rest fault = IsResultReading rest (Err fault)
IsRestFault AsksMoves rest fault = IsThrowReading rest (Err fault)
IsRestFault AsksRank rest fault = IsPositionReading rest (Err fault)

-- what stands after the word of a kind asks this query, or is refused
abbrev pub IsRestReading : Word → List ℕ → Result Query LineFault → Type 0
IsRestReading kind rest (Ok query) =
    IsQuery (text_of_word kind ++ (32 ∷ rest)) (asked query) × (¬ HasTooMany (asked query))
IsRestReading kind rest (Err fault) = IsRestFault kind rest fault

-- the line asks this query, or one with a position of too many checkers, or none
abbrev pub IsReading : List ℕ → Result Query LineFault → Type 0
IsReading line (Ok query) = IsQuery line (asked query) × (¬ HasTooMany (asked query))
IsReading line (Err BadLine) = (q : Asked) → ¬ IsQuery line q
IsReading line (Err TooMany) = (q : Asked) × IsQuery line q × HasTooMany q

-- a file of this bound answers the query
pub record IsAnswerable (bound : ℕ) (q : Asked) : Type 0 where
  pub within : pips (subject q) ≤ bound
  pub unfinished : ¬ AsksOfFinished q
  pub result : HasResult q
