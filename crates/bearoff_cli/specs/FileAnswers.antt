-- What the program writes of a database or a board file, and for lines. Source: this project's
-- profile.
use Rattle.std.specs.Prelude.{◌≡◌, ℕ, zero, suc, Bool, true, false, List, [], ◌∷◌, ◌++◌, take, Option, None, Some, ◌≤◌}
use Rattle.std.specs.Prelude.{◌⊎◌, ◌↔◌, ◌==◌, count_by, codes, decimal}
use Rattle.std.specs.List.{IsAnyAnswer}
use Rattle.std.specs.Io.KnownBytes.{Appends, IsAtEnd}
use Rattle.race_model.specs.Prelude.{IsBuilt, lines_of, IsLevelLineIn, Query, Refusal, over_bound, IsAccepted}
use Rattle.race_model.specs.Prelude.{IsRefused, count_to, full, version_of, bound_of}
use Rattle.db_reader.specs.Telling.{WhereTold}
use Rattle.db_layout.specs.declared.stated.Kind.{Kind}
use Rattle.db_layout.specs.declared.stated.Kind.TheVariants.{Database, Board}
use Rattle.epc_query.specs.Runs.{HasReplies}
use Rattle.retrograde.specs.UsualVersion.{usual_version}
use Rattle.whole_file.specs.Disks.{Moment, Holds, Lastly}
use Rattle.whole_file.specs.Paths.{Paths, LeadsTo, place_of}
use Rattle.epc_query.specs.Kinds.{IsRightAs, book_as, stated_kind, version_as}
use Rattle.bearoff_cli.specs.Kinds.{kind_as}
use Rattle.bearoff_cli.specs.declared.fault.Hint.{Hint}
use Rattle.bearoff_cli.specs.declared.fault.Hint.TheVariants as hint
use Rattle.bearoff_cli.specs.declared.act.Done.{Done}
use Rattle.bearoff_cli.specs.declared.act.Done.TheVariants.{Built, Checked, Upgraded}

-- the bytes are the first 20,000,001 of what some opened file had left, where it tells them, and of
-- the file to which a path leads, where a disk tells its moments and these were made sure of
abbrev pub IsReadFrom : {F : Type 0} → (F → Option (List ℕ)) → Paths → Option (List Moment)
    → List ℕ → List ℕ → Type 0
IsReadFrom {F} remaining paths told path bytes =
    ((opened : F) × WhereTold (remaining opened) (λ left. bytes ≡ take 20000001 left))
    × Lastly (λ now. (to file : List ℕ) → LeadsTo paths path to → Holds now (place_of paths to) file
    → bytes ≡ take 20000001 file) told

-- a writer was handed bytes, of which this holds
abbrev pub IsHandedTo : {W : Type 0} → (W → Option (List ℕ))
    → (Option (List ℕ) → Option (List ℕ) → Type 0) → Type 0
IsHandedTo {W} contents Writes =
    (before : W) × (after : W) × Writes (contents before) (contents after)

-- the input was read to its end, the file is right, and the replies to the lines of the input were
-- written, and nothing else
pub record AreAnswered (kind : Kind) (file given : List ℕ)
    (left old new : Option (List ℕ)) : Type 0 where
  pub right : IsRightAs kind file
  pub end : IsAtEnd left
  pub replies : HasReplies (book_as kind file) (lines_of given) old new

-- the input was read to its end, the file is the database that the builder makes of a bound, and
-- the replies to the lines of the input were written, and nothing else
pub record AreAnsweredOver (bound : ℕ) (given : List ℕ)
    (left old new : Option (List ℕ)) : Type 0 where
  pub file : List ℕ
  pub built : IsBuilt (usual_version bound) bound file
  pub answered : AreAnswered Database file given left old new

-- the replies over some opened file of this kind were written
pub record AreAnsweredFrom (kind : Option Kind)
    (From : List ℕ → Type 0) (given : List ℕ)
    (left old new : Option (List ℕ)) : Type 0 where
  pub file : List ℕ
  pub read : From file
  pub answered : AreAnswered (kind_as kind file) file given left old new

-- whether a file of a bound answers a line: what the line asks, or why it is refused
abbrev pub IsAnsweredBy : ℕ → List ℕ → Bool → Type 0
IsAnsweredBy bound line true = (q : Query) × IsAccepted bound line q
IsAnsweredBy bound line false = (why : Refusal) × IsRefused bound line why

-- whether a file of a bound refuses a line since its position is over the bound
abbrev pub IsOverBy : ℕ → List ℕ → Bool → Type 0
IsOverBy bound line true = IsRefused bound line over_bound
IsOverBy bound line false = ((q : Query) × IsAccepted bound line q)
    ⊎ ((why : Refusal) × IsRefused bound line why × ¬ (why ≡ over_bound))

-- there are several lines, and no space
abbrev pub AreWords : List ℕ → Type 0
AreWords text = (2 ≤ count_by (λ c. c == 10) text) × (count_by (λ c. c == 32) text ≡ 0)

-- the hint for lines of which a file of a bound answers none
abbrev pub IsHintFor : ℕ → List ℕ → Hint → Type 0
IsHintFor bound text hint.Board = IsAnyAnswer (IsOverBy bound) (lines_of text) true
IsHintFor bound text hint.Position = ⊥
IsHintFor bound text other = IsAnyAnswer (IsOverBy bound) (lines_of text) false
    × ((other ≡ hint.Quotes) ↔ AreWords text)

-- such a file answers some of the lines of a text, or there is this hint for them
abbrev pub IsHinted : ℕ → List ℕ → Option Hint → Type 0
IsHinted bound text None = IsAnyAnswer (IsAnsweredBy bound) (lines_of text) true
IsHinted bound text (Some hint) =
    IsAnyAnswer (IsAnsweredBy bound) (lines_of text) false × IsHintFor bound text hint

-- the replies to lines that are words were written, of which some are answers, or each is a refusal
abbrev pub AnswersWords : Option Hint → (List ℕ → Type 0) → List ℕ
    → Option (List ℕ) → Option (List ℕ) → Type 0
AnswersWords hint From lines old new = (it : AreAnsweredFrom None From lines (Some []) old new)
    × IsHinted (bound_of it.file) lines hint

-- the words for what was done
abbrev pub count_text : Done → List ℕ
count_text Built = codes "built pips "
count_text Checked = codes "ok pips "
count_text Upgraded = codes "upgraded pips "

-- the line of what was done
abbrev pub count_line : Done → ℕ → ℕ → List ℕ
count_line done pips positions =
    count_text done ++ decimal pips ++ codes " positions " ++ decimal positions ++ codes "\n"

-- such a line of the bound of a file
abbrev pub bound_line : Done → List ℕ → List ℕ
bound_line done file = count_line done (bound_of file) (count_to (bound_of file))

-- a text was written of a right file of this kind, which was read
pub record Says (kind : Option Kind) (From : List ℕ → Type 0)
    (IsText : List ℕ → List ℕ → Type 0) (old new : Option (List ℕ)) : Type 0 where
  pub file : List ℕ
  pub read : From file
  pub right : IsRightAs (kind_as kind file) file
  pub text : List ℕ
  pub is : IsText file text
  pub written : Appends old new text

-- the words for a kind of file
abbrev pub kind_text : Kind → List ℕ
kind_text Database = codes "database"
kind_text Board = codes "board file"

-- the lines of what a file is
abbrev pub about_text : Kind → ℕ → ℕ → ℕ → List ℕ
about_text kind version pips positions =
    codes "kind " ++ kind_text kind ++ codes "\nversion " ++ decimal version ++ codes "\npips "
    ++ decimal pips ++ codes "\npositions " ++ decimal positions ++ codes "\n"

-- the lines of what the file is that has these bytes, of the kind that its header states
abbrev pub about_file : List ℕ → List ℕ
about_file f = about_text (stated_kind f) (version_as (stated_kind f) f) (bound_of f)
    (count_to (bound_of f))

-- the text is the line of a database that was upgraded, and so is of version 1
abbrev pub IsUpgradedLine : List ℕ → List ℕ → Type 0
IsUpgradedLine file text = (version_of file ≡ full) × (text ≡ bound_line Upgraded file)

-- the bytes are its line of a pip count, without the line feed
abbrev pub IsLevelLineAs : Kind → List ℕ → ℕ → List ℕ → Type 0
IsLevelLineAs kind f = IsLevelLineIn (book_as kind f)

-- the line of a pip count of a file was written
pub record WritesLevel (kind : Kind) (file : List ℕ) (p : ℕ)
    (old new : Option (List ℕ)) : Type 0 where
  pub line : List ℕ
  pub is : IsLevelLineAs kind file p line
  pub written : Appends old new (line ++ 10 ∷ [])

-- the bytes are the lines of the first so many pip counts of a file, from 0 on
abbrev pub AreLevelLines : Kind → List ℕ → ℕ → List ℕ → Type 0
AreLevelLines kind file zero bytes = bytes ≡ []
AreLevelLines kind file (suc p) bytes = (before line : List ℕ) × AreLevelLines kind file p before
    × IsLevelLineAs kind file p line × (bytes ≡ before ++ (line ++ 10 ∷ []))

-- the lines of the first so many pip counts of a file were written
pub record WritesLevels (kind : Kind) (file : List ℕ) (count : ℕ)
    (old new : Option (List ℕ)) : Type 0 where
  pub lines : List ℕ
  pub levels : AreLevelLines kind file count lines
  pub written : Appends old new lines

-- the text is the lines of all pip counts of a file of this kind
abbrev pub AreAllLevels : Option Kind → List ℕ → List ℕ → Type 0
AreAllLevels kind file = AreLevelLines (kind_as kind file) file (suc (bound_of file))
