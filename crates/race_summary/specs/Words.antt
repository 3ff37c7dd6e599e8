-- What words ask about: a file, lines and a roll. Source: this project's profile.
use Rattle.std.specs.Prelude.{◌≡◌, ◌⊎◌, ◌+◌, ℕ, List, [], ◌∷◌, ◌++◌, Option, None, Some, Err}
use Rattle.std.specs.Char.{is_not_whitespace}
use Rattle.std.specs.Str.{NoCharPasses}
use Rattle.race_model.specs.Prelude.{Die, Throw, number}
use Rattle.legal_plays.specs.Faces.{roll_of}
use Rattle.legal_plays.specs.Texts.{roll_text}
use Rattle.notation.specs.Readings.{IsReading}
use Rattle.notation.specs.declared.told.NoRace.TheVariants.{BadText}

-- the word is a roll: two dice, with or without a hyphen between
abbrev pub IsRollWord : List ℕ → Throw → Type 0
IsRollWord word v = (a b : Die) × ((word ≡ roll_text a b)
    ⊎ (word ≡ (48 + number a) ∷ 45 ∷ (48 + number b) ∷ [])) × (v ≡ roll_of a b)

-- the text is two texts with a line feed between, and blanks
abbrev pub IsJoined : List ℕ → List ℕ → List ℕ → Type 0
IsJoined text before after = (blanks : List ℕ) × NoCharPasses is_not_whitespace blanks
    × (text ≡ before ++ 10 ∷ (after ++ blanks))

-- the words are these lines, and behind them a roll if there is one
abbrev pub HasRoll : List ℕ → List ℕ → Option Throw → Type 0
HasRoll words lines None = lines ≡ words
HasRoll words lines (Some v) = (word : List ℕ) × IsRollWord word v × IsJoined words lines word

-- the words are these lines, and before them a file if one is named, which is in no notation
abbrev pub HasFile : List ℕ → Option (List ℕ) → List ℕ → Type 0
HasFile words None lines = lines ≡ words
HasFile words (Some file) lines = IsReading file (Err BadText) × IsJoined words file lines

-- the words are a file if one is named, lines, and a roll if one is given
abbrev pub IsSplit : List ℕ → Option (List ℕ) → List ℕ → Option Throw → Type 0
IsSplit words file lines roll =
    (rest : List ℕ) × HasRoll words rest roll × HasFile rest file lines
