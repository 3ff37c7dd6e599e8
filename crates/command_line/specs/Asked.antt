-- What words ask for.
use Rattle.std.specs.Prelude.{◌≡◌, ◌<◌, ◌≤◌, ◌⊎◌, ◌==◌, ℕ, Bool, true, false, not, cond, List, [], ◌∷◌, ◌++◌, Option}
use Rattle.std.specs.Prelude.{Some, None, Result, IfOk, IfErr, codes, flat_map}
use Rattle.std.specs.Str.Parse.{IsNumeral, digits_value}
use Rattle.std.specs.List.{Contains, list_all}
use Rattle.std.specs.String.{string_bytes}
use Rattle.std.specs.Str.{bytes_eq}
use Rattle.db_layout.specs.declared.stated.Kind.{Kind}
use Rattle.db_layout.specs.declared.stated.Kind.TheVariants.{Database, Board}
use Rattle.command_line.specs.declared.words.Request.{Request}
use Rattle.command_line.specs.declared.words.Request.TheVariants.{Default, Build, Check, Query, Ask, Show, About, Audit}
use Rattle.command_line.specs.declared.words.Request.TheVariants.{Upgrade}
use Rattle.command_line.specs.declared.words.WordsError.{WordsError}
use Rattle.command_line.specs.declared.words.WordsError.TheVariants.{OutOfMemory}

-- a text, as its bytes
abbrev pub Text : Type 0
Text = List ℕ

-- a request with each text as its bytes; the lines of `ask` and the words of `show` are the text of
-- an input. `show` writes JSON where it is true
pub data Asked : Type 0 where
  default : Asked
  build : Kind → ℕ → Text → Asked
  check : Kind → Text → Asked
  query : Kind → Text → Option ℕ → Asked
  ask : Text → Text → Asked
  show : Bool → Text → Asked
  about : Text → Asked
  audit : Kind → Text → Asked
  upgrade : Text → Text → Asked

-- what a request asks for
abbrev pub asked_by : Request → Asked
asked_by Default = default
asked_by (Build kind pips path) = build kind pips path.now
asked_by (Check kind path) = check kind path.now
asked_by (Query kind path cache) = query kind path.now cache
asked_by (Ask path lines) = ask path.now (string_bytes lines)
asked_by (Show words is_json) = show is_json (string_bytes words)
asked_by (About path) = about path.now
asked_by (Audit kind path) = audit kind path.now
asked_by (Upgrade old new) = upgrade old.now new.now

-- whether the text does not begin with a hyphen, or is one
abbrev pub is_plain : Text → Bool
is_plain [] = true
is_plain (x ∷ []) = true
is_plain (x ∷ y ∷ rest) = not (x == 45)

-- the text does not begin with a hyphen, or is one
abbrev pub IsPlain : Text → Type 0
IsPlain text = is_plain text ≡ true

-- no text of these begins with a hyphen, unless it is one
abbrev pub ArePlain : List Text → Type 0
ArePlain texts = list_all is_plain texts ≡ true

-- lines as the text of an input: a line feed, 10, ends each
abbrev pub as_input : List Text → Text
as_input = flat_map (λ line. line ++ 10 ∷ [])

-- the text is one digit or more, which write n
abbrev pub Writes : ℕ → Text → Type 0
Writes n text = IsNumeral 10 text × (digits_value 10 text ≡ n)

-- the words for a file of a kind: `--board` stands before those for a board file
abbrev pub flagged : Kind → List Text → List Text
flagged Database words = words
flagged Board words = codes "--board" ∷ words

-- the words for positions: `--json` stands before those for JSON
abbrev pub formed : Bool → List Text → List Text
formed false words = words
formed true words = codes "--json" ∷ words

-- the words behind a command are these of the request: `--board` for a board file, `--json` or an
-- option with its number first, and files, lines and positions that don't begin with a hyphen
abbrev pub AreUsual : Asked → List Text → Type 0
AreUsual default words = ⊥
AreUsual (build Database pips path) words = (digits : Text) × Writes pips digits × (pips < 256)
    × IsPlain path × (words ≡ codes "--pips" ∷ digits ∷ path ∷ [])
AreUsual (build Board pips path) words =
    (pips ≡ 90) × IsPlain path × (words ≡ codes "--board" ∷ path ∷ [])
AreUsual (check kind path) words = IsPlain path × (words ≡ flagged kind (path ∷ []))
AreUsual (query kind path None) words = IsPlain path × (words ≡ flagged kind (path ∷ []))
AreUsual (query Database path (Some records)) words = (digits : Text) × Writes records digits
    × (1 ≤ records) × (records < 65536) × IsPlain path
    × (words ≡ codes "--cache" ∷ digits ∷ path ∷ [])
AreUsual (query Board path (Some records)) words = ⊥
AreUsual (ask path text) words = (line : Text) × (lines : List Text) × IsPlain path
    × ArePlain (line ∷ lines) × (text ≡ as_input (line ∷ lines)) × (words ≡ path ∷ line ∷ lines)
AreUsual (show is_json text) words = (line : Text) × (lines : List Text) × ArePlain (line ∷ lines)
    × (text ≡ as_input (line ∷ lines)) × (words ≡ formed is_json (line ∷ lines))
AreUsual (about path) words = IsPlain path × (words ≡ path ∷ [])
AreUsual (audit kind path) words = IsPlain path × (words ≡ flagged kind (path ∷ []))
AreUsual (upgrade before after) words =
    IsPlain before × IsPlain after × (words ≡ before ∷ after ∷ [])

-- the name of a request's command
abbrev pub name_of : Asked → Text
name_of default = []
name_of (build kind pips path) = codes "build"
name_of (check kind path) = codes "check"
name_of (query kind path cache) = codes "query"
name_of (ask path lines) = codes "ask"
name_of (show is_json texts) = codes "show"
name_of (about path) = codes "about"
name_of (audit kind path) = codes "audit"
name_of (upgrade old new) = codes "upgrade"

-- the words ask for the request in the usual way: there is none, or they are its command and these
abbrev pub Asks : List Text → Asked → Type 0
Asks words asked = ((words ≡ []) × (asked ≡ default))
    ⊎ ((rest : List Text) × (words ≡ name_of asked ∷ rest) × AreUsual asked rest)

-- the kind of file: a board file where `--board` is one of the words, before any `--`
abbrev pub kind_in : List Text → Kind
kind_in [] = Database
kind_in (word ∷ rest) = cond (bytes_eq word (codes "--board")) Board
    (cond (bytes_eq word (codes "--")) Database (kind_in rest))

-- whether a text is one of some words
abbrev pub is_word : List Text → Text → Bool
is_word [] text = false
is_word (word ∷ rest) text = cond (bytes_eq word text) true (is_word rest text)

-- the result is an `Ok` of which P holds, or memory was wanting
abbrev pub Gives : {X : Type 0} → Result X WordsError → (X → Type 0) → Type 0
Gives result P = IfOk result P × IfErr result (λ error. error ≡ OutOfMemory)

-- a request asks for this
abbrev pub IsFor : Asked → Request → Type 0
IsFor asked request = asked_by request ≡ asked

-- the words begin with the name, and the text is one of the others
abbrev pub Follows : Text → List Text → Text → Type 0
Follows name words text = (rest : List Text) × (words ≡ name ∷ rest) × Contains rest text

-- the same of words that speak of a file of this kind
abbrev pub FollowsFor : Kind → Text → List Text → Text → Type 0
FollowsFor kind name words text = (rest : List Text) × (words ≡ name ∷ rest)
    × (kind_in rest ≡ kind) × Contains rest text

-- no word stands there, or the one that ends the options, alone
abbrev pub HasNoCommand : List Text → Type 0
HasNoCommand words = (words ≡ []) ⊎ (words ≡ codes "--" ∷ [])

-- the command is the first word, each path is one of the others, and so is `--board` exactly where
-- a board file is asked for
abbrev pub IsAskedBy : List Text → Asked → Type 0
IsAskedBy words default = HasNoCommand words
IsAskedBy words (build kind pips path) = FollowsFor kind (codes "build") words path
IsAskedBy words (check kind path) = FollowsFor kind (codes "check") words path
IsAskedBy words (query kind path cache) = FollowsFor kind (codes "query") words path
IsAskedBy words (ask path lines) = Follows (codes "ask") words path
IsAskedBy words (show is_json texts) = (rest : List Text) × (words ≡ codes "show" ∷ rest)
IsAskedBy words (about path) = Follows (codes "about") words path
IsAskedBy words (audit kind path) = FollowsFor kind (codes "audit") words path
IsAskedBy words (upgrade old new) =
    Follows (codes "upgrade") words old × Follows (codes "upgrade") words new
