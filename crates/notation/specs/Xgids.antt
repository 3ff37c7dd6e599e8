-- What an XGID tells. Source: the public description of the format, by its author.
use Rattle.std.specs.Prelude.{◌≡◌, ℕ, ◌-◌, ◌⊎◌, Bool, true, ◌&&◌, ◌||◌, ◌==◌, nat_le, if◌then◌else◌}
use Rattle.std.specs.Prelude.{Option, Some, None, List, [], ◌∷◌, length, map, drop, reverse, codes, slice_index}
use Rattle.std.specs.List.{list_all}
use Rattle.race_model.specs.Prelude.{Die, is_digit}
use Rattle.legal_plays.specs.Faces.{roll_of}
use Rattle.legal_plays.specs.Texts.{roll_text}
use Rattle.legal_plays.specs.declared.roll.Roll.{Roll}
use Rattle.notation.specs.declared.told.Player.{Player}
use Rattle.notation.specs.declared.told.Player.TheVariants.{Bottom, Top}
use Rattle.notation.specs.declared.told.Told.{Told}

-- the checkers of the player at the bottom that a letter stands for: A to O for 1 to 15
abbrev pub of_bottom : ℕ → ℕ
of_bottom c = if nat_le 65 c && nat_le c 79 then c - 64 else 0

-- those of the player at the top: a to o
abbrev pub of_top : ℕ → ℕ
of_top c = if nat_le 97 c && nat_le c 111 then c - 96 else 0

-- whether a character is one of a board: a letter of one of both, or - for an empty point
abbrev pub is_place : ℕ → Bool
is_place c = c == 45 || (nat_le 65 c && nat_le c 79) || (nat_le 97 c && nat_le c 111)

-- whether a text is a board: the bar of the player at the top, the points 1 to 24 of the player at
-- the bottom, and that one's bar
abbrev pub is_board : List ℕ → Bool
is_board board = length board == 26 && list_all is_place board
    && of_bottom (slice_index board 0) == 0 && of_top (slice_index board 25) == 0

-- the checkers of a player that a letter stands for
abbrev pub checkers_of : Player → ℕ → ℕ
checkers_of Bottom c = of_bottom c
checkers_of Top c = of_top c

-- the board as a player sees it: the opponent's bar, the player's points 1 to 24, the player's bar
abbrev pub seen_by : Player → List ℕ → List ℕ
seen_by Bottom board = board
seen_by Top board = reverse board

-- a player's checkers on the points 1 to 24, and on the bar
abbrev pub side_of : Player → List ℕ → List ℕ
side_of player board = map (checkers_of player) (drop 1 (seen_by player board))

-- the player at the other end of the board
abbrev pub opponent : Player → Player
opponent Bottom = Top
opponent Top = Bottom

-- whether a text is a number of one to four digits
abbrev pub is_number : List ℕ → Bool
is_number text = nat_le 1 (length text) && nat_le (length text) 4 && list_all is_digit text

-- the text says whose the cube is
abbrev pub IsOwner : List ℕ → Type 0
IsOwner text = (text ≡ codes "-1") ⊎ ((text ≡ codes "0") ⊎ (text ≡ codes "1"))

-- the player who is on roll, as the field of the turn tells it
abbrev pub turn_text : Player → List ℕ
turn_text Bottom = codes "1"
turn_text Top = codes "-1"

-- the dice, as their field tells them: two digits in either order, and none where they are to be
-- thrown or a double is offered
abbrev pub IsDiceText : List ℕ → Option Roll → Type 0
IsDiceText text (Some roll) = (a b : Die) × (text ≡ roll_text a b) × (roll ≡ roll_of a b)
IsDiceText text None = (text ≡ codes "00") ⊎ (text ≡ codes "D")

-- what the fields of an XGID are, but for the player on roll
pub record Fields : Type 0 where
  pub board : List ℕ
  pub cube : List ℕ
  pub owner : List ℕ
  pub dice : List ℕ
  pub one : List ℕ
  pub other : List ℕ
  pub rule : List ℕ
  pub points : List ℕ
  pub most : List ℕ

-- the fields in their order
abbrev pub in_order : Player → Fields → List (List ℕ)
in_order player f = f.board ∷ f.cube ∷ f.owner ∷ turn_text player ∷ f.dice ∷ f.one ∷ f.other
    ∷ f.rule ∷ f.points ∷ f.most ∷ []

-- the parts are the fields of an XGID that tells this; of the cube, of the scores and of the match
-- it says no more than that they are numbers
pub record IsXgid (parts : List (List ℕ)) (told : Told) : Type 0 where
  pub fields : Fields
  pub player : Player
  pub ten : parts ≡ in_order player fields
  pub board : is_board fields.board ≡ true
  pub owner : IsOwner fields.owner
  pub numbers : list_all is_number (fields.cube ∷ fields.one ∷ fields.other ∷ fields.rule
      ∷ fields.points ∷ fields.most ∷ []) ≡ true
  pub dice : IsDiceText fields.dice told.roll
  pub on_roll : told.on_roll ≡ Some player
  pub mine : told.mine ≡ side_of player fields.board
  pub theirs : told.theirs ≡ side_of (opponent player) fields.board
