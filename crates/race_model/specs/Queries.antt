-- Lines of input: the six kinds of query, and when each is
-- refused.
use Rattle.std.specs.Prelude.{◌≡◌, ℕ, ◌+◌, ◌<◌, ◌≤◌, ◌⊎◌, ◌↔◌, ◌==◌, List, [], ◌∷◌, ◌++◌, codes}
use Rattle.std.specs.List.{slice_split}
use Rattle.race_model.specs.Positions.{Board, IsFinished, checkers, pips}
use Rattle.race_model.specs.PositionText.{IsPositionText}
use Rattle.race_model.specs.Dice.{number, Throw, reversed, IsRoll}
use Rattle.race_model.specs.Plays.{Legal}

-- what a line asks
pub data Query : Type 0 where
  mean_query : Board → Query
  dist_query : Board → Query
  play_query : Board → Throw → Query
  loss_query : Board → Throw → Board → Query
  moves_query : Board → Throw → Query
  rank_query : Board → Query

-- two dice as digits
abbrev pub dice_text : Throw → List ℕ
dice_text v = (48 + number v.first) ∷ (48 + number v.second) ∷ []

-- the text of a roll: its dice as digits, in either order
pub record IsRollText (text : List ℕ) (v : Throw) : Type 0 where
  pub roll : IsRoll v
  pub digits : (text ≡ dice_text v) ⊎ (text ≡ dice_text (reversed v))

-- the line asks this
abbrev pub IsQuery : List ℕ → Query → Type 0
IsQuery line (mean_query x) = (p : List ℕ) × IsPositionText p x × (line ≡ codes "mean " ++ p)
IsQuery line (dist_query x) = (p : List ℕ) × IsPositionText p x × (line ≡ codes "dist " ++ p)
IsQuery line (play_query x v) =
    (p r : List ℕ) × IsPositionText p x × IsRollText r v
    × (line ≡ codes "play " ++ p ++ codes " " ++ r)
IsQuery line (loss_query x v y) =
    (p r q : List ℕ) × IsPositionText p x × IsRollText r v × IsPositionText q y
    × (line ≡ codes "loss " ++ p ++ codes " " ++ r ++ codes " " ++ q)
IsQuery line (moves_query x v) =
    (p r : List ℕ) × IsPositionText p x × IsRollText r v
    × (line ≡ codes "moves " ++ p ++ codes " " ++ r)
IsQuery line (rank_query x) = (p : List ℕ) × IsPositionText p x × (line ≡ codes "rank " ++ p)

-- the words of a line: its parts between spaces
abbrev pub words : List ℕ → List (List ℕ)
words line = slice_split (λ c. c == 32) line

-- the words of the line ask this
abbrev pub HasWords : List ℕ → Query → Type 0
HasWords line (mean_query x) =
    (p : List ℕ) × IsPositionText p x × (words line ≡ codes "mean" ∷ p ∷ [])
HasWords line (dist_query x) =
    (p : List ℕ) × IsPositionText p x × (words line ≡ codes "dist" ∷ p ∷ [])
HasWords line (play_query x v) =
    (p r : List ℕ) × IsPositionText p x × IsRollText r v × (words line ≡ codes "play" ∷ p ∷ r ∷ [])
HasWords line (loss_query x v y) =
    (p r q : List ℕ) × IsPositionText p x × IsRollText r v × IsPositionText q y
    × (words line ≡ codes "loss" ∷ p ∷ r ∷ q ∷ [])
HasWords line (moves_query x v) =
    (p r : List ℕ) × IsPositionText p x × IsRollText r v
    × (words line ≡ codes "moves" ∷ p ∷ r ∷ [])
HasWords line (rank_query x) =
    (p : List ℕ) × IsPositionText p x × (words line ≡ codes "rank" ∷ p ∷ [])

-- the position that a query is about, which stands first in its line
abbrev pub subject : Query → Board
subject (mean_query x) = x
subject (dist_query x) = x
subject (play_query x v) = x
subject (loss_query x v y) = x
subject (moves_query x v) = x
subject (rank_query x) = x

-- a line asks of a position within two bounds, or within none of them
abbrev pub IsWithinAlike : ℕ → ℕ → List ℕ → Type 0
IsWithinAlike b c line =
    (q : Query) → IsQuery line q → (pips (subject q) ≤ b) ↔ (pips (subject q) ≤ c)

-- a position of the line has more than 15 checkers
abbrev pub HasTooMany : Query → Type 0
HasTooMany (mean_query x) = 15 < checkers x
HasTooMany (dist_query x) = 15 < checkers x
HasTooMany (play_query x v) = 15 < checkers x
HasTooMany (loss_query x v y) = (15 < checkers x) ⊎ (15 < checkers y)
HasTooMany (moves_query x v) = 15 < checkers x
HasTooMany (rank_query x) = 15 < checkers x

-- a play is asked of the finished position
abbrev pub AsksOfFinished : Query → Type 0
AsksOfFinished (mean_query x) = ⊥
AsksOfFinished (dist_query x) = ⊥
AsksOfFinished (play_query x v) = IsFinished x
AsksOfFinished (loss_query x v y) = IsFinished x
AsksOfFinished (moves_query x v) = IsFinished x
AsksOfFinished (rank_query x) = ⊥

-- the roll leads to the position whose loss is asked
abbrev pub HasResult : Query → Type 0
HasResult (mean_query x) = Unit {0}
HasResult (dist_query x) = Unit {0}
HasResult (play_query x v) = Unit {0}
HasResult (loss_query x v y) = Legal x v y
HasResult (moves_query x v) = Unit {0}
HasResult (rank_query x) = Unit {0}

-- why a query is refused
pub data Refusal : Type 0 where
  bad_line : Refusal
  too_many : Refusal
  over_bound : Refusal
  at_end : Refusal
  not_legal : Refusal

-- the refusal of a line by a database of a bound: the first that applies, in this order
pub data IsRefused (bound : ℕ) (line : List ℕ) : Refusal → Type 0 where
  no_query : ((q : Query) → ¬ IsQuery line q) → IsRefused bound line bad_line
  of_too_many : (q : Query) → IsQuery line q → HasTooMany q → IsRefused bound line too_many
  of_over_bound : (q : Query) → IsQuery line q → ¬ HasTooMany q → bound < pips (subject q) →
      IsRefused bound line over_bound
  of_finished : (q : Query) → IsQuery line q → ¬ HasTooMany q → pips (subject q) ≤ bound →
      AsksOfFinished q → IsRefused bound line at_end
  of_no_result : (q : Query) → IsQuery line q → ¬ HasTooMany q → pips (subject q) ≤ bound →
      ¬ AsksOfFinished q → ¬ HasResult q → IsRefused bound line not_legal

-- the query of a line that is not refused
pub record IsAccepted (bound : ℕ) (line : List ℕ) (q : Query) : Type 0 where
  pub query : IsQuery line q
  pub few : ¬ HasTooMany q
  pub within : pips (subject q) ≤ bound
  pub unfinished : ¬ AsksOfFinished q
  pub result : HasResult q
