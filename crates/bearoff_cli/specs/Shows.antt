-- What `show` writes. Source: this project's profile.
use Rattle.std.specs.Prelude.{◌≡◌, ℕ, ◌-◌, ◌⊎◌, ◌==◌, ◌||◌, Bool, true, false, if◌then◌else◌, codes}
use Rattle.std.specs.Prelude.{List, [], ◌∷◌, ◌++◌, length, take, slice_index, Option, None, Some}
use Rattle.std.specs.List.{slice_split}
use Rattle.std.specs.Str.{IsTrimAscii}
use Rattle.std.specs.Io.KnownBytes.{Appends}
use Rattle.race_model.specs.Prelude.{Throw}
use Rattle.db_layout.specs.declared.stated.Kind.{Kind}
use Rattle.db_reader.specs.Telling.{WhereTold}
use Rattle.retrograde.specs.BuiltBoards.{IsBuiltBoard}
use Rattle.epc_query.specs.Kinds.{IsRightAs, stated_kind}
use Rattle.db_layout.specs.Writes.{AppendsPart}
use Rattle.race_summary.specs.Shown.{IsShown, IsShownFirst}
use Rattle.race_summary.specs.Words.{IsSplit}
use Rattle.race_summary.specs.declared.lines.Form.{Form}
use Rattle.race_summary.specs.declared.lines.Form.TheVariants.{Json, Plain}
use Rattle.bearoff_cli.specs.declared.fault.Fault.{Fault}
use Rattle.bearoff_cli.specs.declared.fault.Fault.TheVariants.{Unanswered, Write}
use Rattle.bearoff_cli.specs.declared.fault.Hint.TheVariants.{Position}

-- a text without the line feed at its end, if it has one
abbrev pub unended : List ℕ → List ℕ
unended text =
    if slice_index text (length text - 1) == 10 then take (length text - 1) text else text

-- the parts of a text between line feeds
abbrev pub parts_of : List ℕ → List (List ℕ)
parts_of text = slice_split (λ c. c == 10) text

-- the lines of a text, of which the last one need not end
abbrev pub shown_lines : List ℕ → List (List ℕ)
shown_lines text = parts_of (unended text)

-- the text is what is shown of each line in turn over an opened file, and whether one has a summary
abbrev pub AreShown : Kind × List ℕ → Option Throw → Form → List (List ℕ) → Bool → List ℕ → Type 0
AreShown opened roll form [] some text = (some ≡ false) × (text ≡ [])
AreShown opened roll form (line ∷ lines) some text = (has more : Bool) × (first rest : List ℕ)
    × IsShown opened line roll form has first × AreShown opened roll form lines more rest
    × (some ≡ (has || more)) × (text ≡ first ++ rest)

-- what is shown of each line over an opened file was written, and whether one has a summary
pub record ShowsLines (some : Bool) (old new : Option (List ℕ)) (opened : Kind × List ℕ)
    (roll : Option Throw) (form : Form) (lines : List ℕ) : Type 0 where
  pub text : List ℕ
  pub shown : AreShown opened roll form (shown_lines lines) some text
  pub written : Appends old new text

-- the text has the first numbers of what is shown of the first line, if there is one
abbrev pub IsShownNext : Kind × List ℕ → Option Throw → Form → List (List ℕ) → List ℕ → Type 0
IsShownNext opened roll form [] text = text ≡ []
IsShownNext opened roll form (line ∷ lines) text = IsShownFirst opened line roll form text

-- a prefix of what is shown of the first lines and of the first numbers of the next was written
pub record ShowsPart (old new : Option (List ℕ)) (opened : Kind × List ℕ) (roll : Option Throw)
    (form : Form) (lines : List ℕ) : Type 0 where
  pub before : List (List ℕ)
  pub after : List (List ℕ)
  pub are : shown_lines lines ≡ before ++ after
  pub some : Bool
  pub text : List ℕ
  pub shown : AreShown opened roll form before some text
  pub next : List ℕ
  pub first : IsShownNext opened roll form after next
  pub written : AppendsPart old new (text ++ next)

-- what was written of lines where `show` failed so: of each one why it has no summary, or a part
abbrev pub LeavesLines : Option (List ℕ) → Option (List ℕ) → Fault → Kind × List ℕ → Option Throw
    → Form → List ℕ → Type 0
LeavesLines old new fault opened roll form lines =
    ((fault ≡ Unanswered Position) × ShowsLines false old new opened roll form lines)
    ⊎ ((fault ≡ Write) × ShowsPart old new opened roll form lines)

-- the lines are these words, and the input is left alone; or they are the input, for the word -
abbrev pub AreGiven : List ℕ → Option (List ℕ) → Option (List ℕ) → List ℕ → Type 0
AreGiven words input left lines = ((left ≡ input) × (lines ≡ words))
    ⊎ (IsTrimAscii words (codes "-") × WhereTold input (λ given. lines ≡ given))

-- this was written of the lines that words give, over a right file
pub record ShowsWords (Says : Kind × List ℕ → Option Throw → Form → List ℕ → Type 0)
    (file : List ℕ) (roll : Option Throw) (form : Form) (words : List ℕ)
    (input left : Option (List ℕ)) : Type 0 where
  pub right : IsRightAs (stated_kind file) file
  pub lines : List ℕ
  pub given : AreGiven words input left lines
  pub says : Says (stated_kind file, file) roll form lines

-- JSON is written where it is asked for
abbrev pub form_of : Bool → Form
form_of true = Json
form_of false = Plain

-- the file was read from where a path leads, or was built of the whole board
abbrev pub IsFileOf : (List ℕ → List ℕ → Type 0) → Option (List ℕ) → List ℕ → Type 0
IsFileOf From None file = IsBuiltBoard 90 file
IsFileOf From (Some path) file = From path file

-- the file is the one that one of these words names, or the built one where none does
abbrev pub IsFileShown : (List ℕ → List ℕ → Type 0) → List ℕ → List ℕ → Type 0
IsFileShown From texts file = (path : Option (List ℕ)) × (words : List ℕ) × (roll : Option Throw)
    × IsSplit texts path words roll × IsFileOf From path file

-- this was written of these words, over the file that one of them names if there is one
pub record ShowsTexts (Says : Kind × List ℕ → Option Throw → Form → List ℕ → Type 0)
    (From : List ℕ → List ℕ → Type 0) (is_json : Bool) (texts : List ℕ)
    (input left : Option (List ℕ)) : Type 0 where
  pub path : Option (List ℕ)
  pub words : List ℕ
  pub roll : Option Throw
  pub split : IsSplit texts path words roll
  pub file : List ℕ
  pub is : IsFileOf From path file
  pub shows : ShowsWords Says file roll (form_of is_json) words input left
