-- What the IDs of GNU Backgammon tell. Source: its manual.
use Rattle.std.specs.Prelude.{◌≡◌, ℕ, zero, suc, ◌+◌, ◌*◌, ◌%◌, ◌==◌, true, Option, Some, None}
use Rattle.std.specs.Prelude.{if◌then◌else◌, ◌&&◌, List, [], ◌∷◌, length, sum, ◌≤◌, take, slice_index}
use Rattle.std.specs.List.{list_all}
use Rattle.race_model.specs.Prelude.{Die, number}
use Rattle.legal_plays.specs.Faces.{roll_of}
use Rattle.legal_plays.specs.declared.roll.Roll.{Roll}
use Rattle.notation.specs.declared.told.Player.{Player}
use Rattle.notation.specs.declared.told.Player.TheVariants.{Bottom, Top}
use Rattle.notation.specs.Letters.{is_letter, place_of, field}

-- the number whose lowest bits are so many ones and a zero, and whose others are those of a number
abbrev pub ones : ℕ → ℕ → ℕ
ones zero above = 2 * above
ones (suc n) above = 1 + 2 * ones n above

-- the same of several counts, the first one lowest
abbrev pub key : List ℕ → ℕ → ℕ
key [] above = above
key (n ∷ ns) above = ones n (key ns above)

-- a Position ID without what may stand behind it
abbrev pub unpadded : List ℕ → List ℕ
unpadded text =
    if length text == 16 && slice_index text 14 == 61 && slice_index text 15 == 61
    then take 14 text else text

-- the text is a Position ID of these checkers: of the other player, and above these of the player
-- on roll, on the points 1 to 24 and on the bar
pub record IsPositionId (text theirs mine : List ℕ) : Type 0 where
  pub fourteen : length (unpadded text) ≡ 14
  pub letters : list_all is_letter (unpadded text) ≡ true
  pub spare : place_of (slice_index (unpadded text) 13) % 16 ≡ 0
  pub their_places : length theirs ≡ 25
  pub my_places : length mine ≡ 25
  pub ten_bytes : 50 + (sum theirs + sum mine) ≤ 80
  pub bits : field (unpadded text) 0 80 ≡ key theirs (key mine 0)

-- the dice that are thrown, none where both are 0
abbrev pub AreThrown : ℕ → ℕ → Option Roll → Type 0
AreThrown one other None = (one ≡ 0) × (other ≡ 0)
AreThrown one other (Some roll) =
    (a b : Die) × (number a ≡ one) × (number b ≡ other) × (roll ≡ roll_of a b)

-- the player on roll: a one stands for the player at the bottom
abbrev pub player_of : ℕ → Player
player_of on_roll = if on_roll == 1 then Bottom else Top

-- the text is a Match ID of this player on roll and these dice
pub record IsMatchId (text : List ℕ) (player : Player) (roll : Option Roll) : Type 0 where
  pub twelve : length text ≡ 12
  pub letters : list_all is_letter text ≡ true
  pub dice : AreThrown (field text 15 3) (field text 18 3) roll
  pub on_roll : player ≡ player_of (field text 6 1)
