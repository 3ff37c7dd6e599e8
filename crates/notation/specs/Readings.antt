-- What reading a text gives.
use Rattle.std.specs.Prelude.{◌≡◌, ◌<◌, ◌⊎◌, ◌-◌, ◌==◌, ℕ, Bool, false, true, nat_eq, if◌then◌else◌, codes}
use Rattle.std.specs.Prelude.{List, [], ◌∷◌, length, take, drop, Some, None, Result, Ok, Err}
use Rattle.std.specs.List.{list_any, starts_with, prefix_len, suffix_len}
use Rattle.std.specs.Char.{is_ascii_whitespace}
use Rattle.race_model.specs.Prelude.{checkers, IsPositionText}
use Rattle.notation.specs.declared.told.NoRace.{NoRace}
use Rattle.notation.specs.declared.told.NoRace.TheVariants.{BadText, TooMany}
use Rattle.notation.specs.declared.told.Player.{Player}
use Rattle.notation.specs.declared.told.Side.TheVariants.{Mine}
use Rattle.notation.specs.declared.told.Told.{Told}
use Rattle.notation.specs.declared.told.Race.{Race}
use Rattle.notation.specs.Parts.{parts}
use Rattle.notation.specs.Sides.{home, IsSound, IsFault}
use Rattle.notation.specs.Xgids.{IsXgid}
use Rattle.notation.specs.Ids.{IsPositionId, IsMatchId}

-- whether a text has a comma
abbrev pub has_comma : List ℕ → Bool
has_comma text = list_any (λ c. c == 44) text

-- a text without the blanks behind it
abbrev pub trimmed_end : List ℕ → List ℕ
trimmed_end text = take (length text - suffix_len is_ascii_whitespace text) text

-- a text without the blanks around it
abbrev pub trimmed : List ℕ → List ℕ
trimmed text = trimmed_end (drop (prefix_len is_ascii_whitespace text) text)

-- an XGID without what may stand before it
abbrev pub bare : List ℕ → List ℕ
bare text = if starts_with nat_eq text (codes "XGID=") then drop 5 text else text

-- the parts of a text, if it is an XGID
abbrev pub fields : List ℕ → List (List ℕ)
fields text = parts false (bare (trimmed text))

-- the second word is a Match ID of this, where there is one
pub record HasMatchId (words : List (List ℕ)) (told : Told) : Type 0 where
  pub game : List ℕ
  pub second : words ≡ game ∷ []
  pub player : Player
  pub on_roll : told.on_roll ≡ Some player
  pub is : IsMatchId game player told.roll

-- the words are a Position ID, alone or with a Match ID, and tell this
pub record AreIds (words : List (List ℕ)) (told : Told) : Type 0 where
  pub id : List ℕ
  pub more : List (List ℕ)
  pub first : words ≡ id ∷ more
  pub is : IsPositionId id told.theirs told.mine
  pub rest : ((more ≡ []) × (told.roll ≡ None) × (told.on_roll ≡ None)) ⊎ HasMatchId more told

-- the text tells this of both players, as an XGID or as IDs
abbrev pub TellsAs : Bool → List ℕ → Told → Type 0
TellsAs true text told = IsXgid (fields text) told
TellsAs false text told = AreIds (parts true text) told

-- the text tells this of both players: with ten fields it is an XGID, and else IDs
abbrev pub Tells : List ℕ → Told → Type 0
Tells text told = TellsAs (length (fields text) == 10) text told

-- what is told is this race
pub record IsRace (told : Told) (race : Race) : Type 0 where
  pub sound : IsSound told.mine told.theirs
  pub mine : race.mine ≡ home told.mine
  pub theirs : race.theirs ≡ Some (home told.theirs)
  pub roll : race.roll ≡ told.roll
  pub on_roll : race.on_roll ≡ told.on_roll

-- the text is six counts, and the race tells them alone
pub record IsCounts (text : List ℕ) (race : Race) : Type 0 where
  pub mine : IsPositionText text race.mine
  pub theirs : race.theirs ≡ None
  pub roll : race.roll ≡ None
  pub on_roll : race.on_roll ≡ None

-- what reading six counts gives
abbrev pub IsOfCounts : List ℕ → Result Race NoRace → Type 0
IsOfCounts text (Ok race) = IsCounts text race
IsOfCounts text (Err fault) =
    ((fault ≡ BadText) × ((counts : List ℕ) → ¬ IsPositionText text counts))
    ⊎ ((fault ≡ TooMany Mine)
    × ((counts : List ℕ) × IsPositionText text counts × (15 < checkers counts)))

-- what reading a text of both players gives
abbrev pub IsOfTold : List ℕ → Result Race NoRace → Type 0
IsOfTold text (Ok race) = (told : Told) × Tells text told × IsRace told race
IsOfTold text (Err fault) = ((fault ≡ BadText) × ((told : Told) → ¬ Tells text told))
    ⊎ ((told : Told) × Tells text told × IsFault told.mine told.theirs fault)

-- what reading a text gives, as six counts or of both players
abbrev pub IsReadingAs : Bool → List ℕ → Result Race NoRace → Type 0
IsReadingAs true text result = IsOfCounts (trimmed text) result
IsReadingAs false text result = IsOfTold text result

-- what reading a text gives: with a comma it is six counts
abbrev pub IsReading : List ℕ → Result Race NoRace → Type 0
IsReading text result = IsReadingAs (has_comma text) text result
