-- What the summary of a line says, and why a line has none. Source: this project's profile.
use Rattle.std.specs.Prelude.{◌≡◌, ◌<◌, ◌≤◌, ◌⊎◌, ℕ, List, [], map, All, Option, None, Some, Ok, Err}
use Rattle.std.specs.Option.{option_or}
use Rattle.db_layout.specs.declared.stated.Kind.{Kind}
use Rattle.race_model.specs.Prelude.{Board, pips, Throw, IsMoveListIn}
use Rattle.epc_query.specs.Choices.{result_of, IsCost}
use Rattle.epc_query.specs.Kinds.{book_by}
use Rattle.epc_query.specs.declared.choices.RankedChoice.{RankedChoice}
use Rattle.notation.specs.Readings.{IsReading}
use Rattle.notation.specs.declared.told.NoRace.{NoRace}
use Rattle.notation.specs.declared.told.Race.{Race}
use Rattle.race_summary.specs.Sides.{IsSide}
use Rattle.race_summary.specs.declared.lines.NoSummary.{NoSummary}
use Rattle.race_summary.specs.declared.lines.NoSummary.TheVariants.{Text, SmallXgid, OverBound, Changed}
use Rattle.race_summary.specs.declared.lines.Summary.{Summary}
use Rattle.race_summary.specs.declared.sides.Side.{Side}

-- an opened file has a position, and says this of it
pub record Says (opened : Kind × List ℕ) (x : Board) (side : Side) : Type 0 where
  pub within : pips x ≤ (book_by opened).bound
  pub said : IsSide opened x side

-- an opened file says nothing of a position: it has more pips than the file, whose bound this is,
-- or the bytes were changed
abbrev pub SaysNothing : Kind × List ℕ → Board → NoSummary → Type 0
SaysNothing opened x (Text why) = ⊥
SaysNothing opened x SmallXgid = ⊥
SaysNothing opened x (OverBound bound) = (bound ≡ (book_by opened).bound) × (bound < pips x)
SaysNothing opened x Changed = Unit {0}

-- what an opened file says of a position, where there is one
abbrev pub SaysOfSome : Kind × List ℕ → Option Board → Option Side → Type 0
SaysOfSome opened None None = Unit {0}
SaysOfSome opened (Some x) (Some side) = Says opened x side
SaysOfSome opened None (Some side) = ⊥
SaysOfSome opened (Some x) None = ⊥

-- every result of a roll, where there is one, with what it costs by an opened file
abbrev pub AreChoices : Kind × List ℕ → Board → Option Throw → List RankedChoice → Type 0
AreChoices opened x None choices = choices ≡ []
AreChoices opened x (Some v) choices = IsMoveListIn (book_by opened) x v (map result_of choices)
    × All (IsCost (book_by opened) x v) choices

-- the summary of a line over an opened file: of the race in the line, with its roll unless another
-- one is given
pub record IsSummary (opened : Kind × List ℕ) (line : List ℕ) (given : Option Throw)
    (summary : Summary) : Type 0 where
  pub race : Race
  pub read : IsReading line (Ok race)
  pub mine : Says opened race.mine summary.mine
  pub theirs : SaysOfSome opened race.theirs summary.theirs
  pub roll : summary.roll ≡ option_or given race.roll
  pub choices : AreChoices opened race.mine summary.roll summary.choices.items

-- the line has a race, and an opened file says nothing of the checkers of one of its players
pub record IsUnsaid (opened : Kind × List ℕ) (line : List ℕ) (why : NoSummary) : Type 0 where
  pub race : Race
  pub read : IsReading line (Ok race)
  pub position : Board
  pub is_one : (position ≡ race.mine) ⊎ (race.theirs ≡ Some position)
  pub unsaid : SaysNothing opened position why

-- why a line has no summary over an opened file
abbrev pub IsNoSummary : Kind × List ℕ → List ℕ → NoSummary → Type 0
IsNoSummary opened line (Text why) = IsReading line (Err why)
IsNoSummary opened line SmallXgid = (why : NoRace) × IsReading line (Err why)
IsNoSummary opened line (OverBound bound) = IsUnsaid opened line (OverBound bound)
IsNoSummary opened line Changed = IsUnsaid opened line Changed
