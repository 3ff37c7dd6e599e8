-- How numbers stand in a text, with words around them. Source: this project's profile.
use Rattle.std.specs.Prelude.{◌≡◌, ℕ, zero, suc, ◌/◌, ◌%◌, Bool, true, ◌||◌, nat_lt}
use Rattle.std.specs.Prelude.{List, [], ◌∷◌, ◌++◌, codes, decimal}
use Rattle.std.specs.List.{list_all}
use Rattle.race_model.specs.Prelude.{number, Move, IsFirstPlay, IsThousandths, Legal, fraction_text, thousandths_text}
use Rattle.race_model.specs.Prelude.{IsShareTextOver}
use Rattle.fixed_fraction.specs.Board.{board_whole}
use Rattle.legal_plays.specs.Texts.{play_text}
use Rattle.query_text.specs.Texts.{position_text}
use Rattle.race_summary.specs.declared.values.Value.{Value}
use Rattle.race_summary.specs.declared.values.Value.TheVariants.{Whole, Thousandths, Exact, Rolls, ExactRolls}
use Rattle.race_summary.specs.declared.values.Value.TheVariants.{Percent, Counts, Dice, Play}

-- thousandths as text in percent, with one digit after the point
abbrev pub percent_text : ℕ → List ℕ
percent_text q = decimal (q / 10) ++ codes "." ++ decimal (q % 10) ++ codes " %"

-- the text is this number
abbrev pub IsTextOf : Value → List ℕ → Type 0
IsTextOf (Whole n) text = text ≡ decimal n
IsTextOf (Thousandths q) text = text ≡ thousandths_text q
IsTextOf (Exact ratio) text = text ≡ fraction_text ratio.numerator ratio.denominator
IsTextOf (Rolls a) text =
    (q : ℕ) × IsThousandths a board_whole q × (text ≡ thousandths_text q)
IsTextOf (ExactRolls a) text = IsShareTextOver board_whole a text
IsTextOf (Percent a) text = (q : ℕ) × IsThousandths a board_whole q × (text ≡ percent_text q)
IsTextOf (Counts x) text = text ≡ position_text x
IsTextOf (Dice v) text = text ≡ decimal (number v.first) ++ decimal (number v.second)
IsTextOf (Play x v y) text =
    (moves : List Move) × (Legal x v y → IsFirstPlay x v y moves) × (text ≡ play_text moves)

-- how many bytes a number takes at most
abbrev pub width : Value → ℕ
width (Exact ratio) = 117
width (ExactRolls a) = 117
width other = 39

-- whether a text has no digit, and no minus, point or slash
abbrev pub are_words : List ℕ → Bool
are_words text = list_all (λ c. nat_lt c 45 || nat_lt 57 c) text

-- the text is these numbers in turn, with words before, between and after them
unfoldable pub Prints : List Value → List ℕ → Type 0
Prints [] text = are_words text ≡ true
Prints (value ∷ values) text = (words number rest : List ℕ) × (are_words words ≡ true)
    × IsTextOf value number × Prints values rest × (text ≡ words ++ (number ++ rest))

-- a text grew by these numbers, with words around them
pub record Adds (values : List Value) (old new : List ℕ) : Type 0 where
  pub more : List ℕ
  pub prints : Prints values more
  pub grown : new ≡ old ++ more

-- the numbers of each k below n in turn
unfoldable pub below : (ℕ → List Value) → ℕ → List Value
below values zero = []
below values (suc n) = below values n ++ values n
