-- What C is told of a text that is a race, or is none.
use Rattle.std.specs.Prelude.{◌≡◌, ℕ, Option, Some, None, Result, Ok, Err, is_some, unwrap_or}
use Rattle.race_model.specs.Prelude.{finished, number}
use Rattle.notation.specs.declared.told.NoRace.{NoRace}
use Rattle.notation.specs.declared.told.NoRace.TheVariants.{BadText, TooMany, SamePoint, OnBar, Outside}
use Rattle.notation.specs.declared.told.NoRace.TheVariants.{Contact, OtherOutside}
use Rattle.notation.specs.declared.told.Player.{Player}
use Rattle.notation.specs.declared.told.Player.TheVariants.{Bottom, Top}
use Rattle.notation.specs.declared.told.Race.{Race}
use Rattle.notation.specs.declared.told.Side.TheVariants.{Mine, Theirs}
use Rattle.legal_plays.specs.declared.roll.Roll.{Roll}
use Rattle.bearoff_c.specs.declared.calls.notations.ReadRace.{ReadRace}

-- the greater die of a roll, 0 without one
abbrev pub high_of : Option Roll → ℕ
high_of (Some roll) = number roll.first
high_of None = 0

-- the smaller die of a roll, 0 without one
abbrev pub low_of : Option Roll → ℕ
low_of (Some roll) = number roll.second
low_of None = 0

-- a player as a number: 1 at the bottom, 2 at the top, 0 unknown
abbrev pub seat_of : Option Player → ℕ
seat_of (Some Bottom) = 1
seat_of (Some Top) = 2
seat_of None = 0

-- the struct has what the race tells, and zeros for the rest
pub record Shows (race : Race) (told : ReadRace) : Type 0 where
  pub mine : told.mine.points ≡ race.mine
  pub theirs : told.theirs.points ≡ unwrap_or race.theirs finished
  pub has_theirs : told.has_theirs ≡ is_some race.theirs
  pub high : told.high ≡ high_of race.roll
  pub low : told.low ≡ low_of race.roll
  pub on_roll : told.on_roll ≡ seat_of race.on_roll

-- the status of a text that is no race
abbrev pub no_race_status : NoRace → ℕ
no_race_status BadText = 11
no_race_status (TooMany side) = 3
no_race_status (SamePoint point) = 32
no_race_status (OnBar side) = 33
no_race_status (Outside point) = 34
no_race_status (Contact point) = 35
no_race_status (OtherOutside point) = 36

-- where it is none: a point, or whose checkers, 1 for those of the player on roll
abbrev pub place_of : NoRace → ℕ
place_of BadText = 0
place_of (TooMany Mine) = 1
place_of (TooMany Theirs) = 2
place_of (SamePoint point) = point
place_of (OnBar Mine) = 1
place_of (OnBar Theirs) = 2
place_of (Outside point) = point
place_of (Contact point) = point
place_of (OtherOutside point) = point

-- the status, the struct and the place say what reading the text gives
abbrev pub IsAnswer : Result Race NoRace → ℕ → ReadRace → ReadRace → ℕ → Type 0
IsAnswer (Ok race) status old new place = (status ≡ 0) × Shows race new × (place ≡ 0)
IsAnswer (Err fault) status old new place =
    (status ≡ no_race_status fault) × (new ≡ old) × (place ≡ place_of fault)
