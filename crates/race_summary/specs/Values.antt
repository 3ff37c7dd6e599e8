-- The numbers that a summary prints, in turn. Source: this project's profile.
use Rattle.std.specs.Prelude.{ℕ, ◌*◌, Bool, if◌then◌else◌, nat_lt, nat_le}
use Rattle.std.specs.Prelude.{List, [], ◌∷◌, ◌++◌, map, flat_map, slice_index, Option, None, Some}
use Rattle.std.specs.List.{list_any}
use Rattle.race_model.specs.Prelude.{Board, pips, Throw}
use Rattle.fixed_fraction.specs.Board.{board_whole}
use Rattle.epc_query.specs.declared.choices.RankedChoice.{RankedChoice}
use Rattle.race_summary.specs.declared.lines.Form.{Form}
use Rattle.race_summary.specs.declared.lines.Form.TheVariants.{Plain, Json}
use Rattle.race_summary.specs.declared.lines.Summary.{Summary}
use Rattle.race_summary.specs.declared.plain.Row.{Row}
use Rattle.race_summary.specs.declared.plain.Row.TheVariants as row
use Rattle.race_summary.specs.declared.sides.Side.{Side}
use Rattle.race_summary.specs.declared.values.Value.{Value}
use Rattle.race_summary.specs.declared.values.Value.TheVariants.{Whole, Thousandths, Exact, Rolls, ExactRolls}
use Rattle.race_summary.specs.declared.values.Value.TheVariants.{Percent, Counts, Dice, Play}
use Rattle.race_summary.specs.Printed.{below}

-- one player, where there is one
abbrev pub others : Option Side → List Side
others None = []
others (Some side) = side ∷ []

-- the players, the one on roll first
abbrev pub players : Summary → List Side
players summary = summary.mine ∷ others summary.theirs

-- the share of k rolls as JSON has it, if there is one
abbrev pub share_values : Side → ℕ → List Value
share_values side k =
    if nat_lt 0 (slice_index side.shares k)
    then Whole k ∷ Rolls (slice_index side.shares k) ∷ ExactRolls (slice_index side.shares k) ∷ []
    else []

-- what JSON says of a player
abbrev pub side_values : Side → List Value
side_values side =
    Counts side.position ∷ Whole (pips side.position)
    ∷ Thousandths side.epc.thousandths ∷ Exact side.epc.exact ∷ Thousandths side.wastage
    ∷ Thousandths side.rolls.thousandths ∷ Exact side.rolls.exact ∷ Thousandths side.deviation
    ∷ below (share_values side) 34

-- a number of a player in a table for people
abbrev pub row_value : Row → Side → Value
row_value row.Position side = Counts side.position
row_value row.Pips side = Whole (pips side.position)
row_value row.Epc side = Thousandths side.epc.thousandths
row_value row.Wastage side = Thousandths side.wastage
row_value row.Rolls side = Thousandths side.rolls.thousandths
row_value row.Deviation side = Thousandths side.deviation
row_value (row.Share k) side = Percent (slice_index side.shares k)

-- the number in the label of a row, if it has one
abbrev pub label_values : Row → List Value
label_values (row.Share k) = Whole k ∷ []
label_values other = []

-- a row: the number of each player
abbrev pub row_values : Summary → Row → List Value
row_values summary row = label_values row ++ map (row_value row) (players summary)

-- whether a share is at least half a thousandth, which is rounded to one
abbrev pub is_seen : ℕ → Bool
is_seen share = nat_le board_whole (2000 * share)

-- the row of the share of k rolls, if it is seen of one of the players
abbrev pub share_row : Summary → ℕ → List Value
share_row summary k =
    if list_any (λ side. is_seen (slice_index side.shares k)) (players summary)
    then row_values summary (row.Share k) else []

-- what is said of the players
abbrev pub player_values : Form → Summary → List Value
player_values Json summary = flat_map side_values (players summary)
player_values Plain summary =
    flat_map (row_values summary) (row.Position ∷ row.Pips ∷ row.Epc ∷ row.Wastage ∷ row.Rolls
    ∷ row.Deviation ∷ []) ++ below (share_row summary) 34

-- what is said of a result of a roll
abbrev pub choice_values : Form → Board → Option Throw → RankedChoice → List Value
choice_values form x None choice = []
choice_values Json x (Some v) choice =
    Counts choice.to ∷ Play x v choice.to ∷ Rolls choice.loss ∷ ExactRolls choice.loss ∷ []
choice_values Plain x (Some v) choice =
    Play x v choice.to ∷ Rolls choice.loss ∷ Counts choice.to ∷ []

-- the roll, if there is one
abbrev pub roll_values : Option Throw → List Value
roll_values None = []
roll_values (Some v) = Dice v ∷ []

-- the numbers of a summary
abbrev pub values : Form → Summary → List Value
values form summary = player_values form summary ++ roll_values summary.roll
    ++ flat_map (choice_values form summary.mine.position summary.roll) summary.choices.items
