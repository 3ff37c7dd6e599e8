-- The parts of a text: the fields of an XGID, or the words around and of IDs.
use Rattle.std.specs.Prelude.{ℕ, Bool, ◌&&◌, ◌||◌, ◌==◌, not, List, codes}
use Rattle.std.specs.List.{slice_split, filter}
use Rattle.std.specs.Str.{bytes_eq}
use Rattle.std.specs.Char.{is_ascii_whitespace}

-- what stands between parts: a colon, and around labels a blank too
abbrev pub is_gap : Bool → ℕ → Bool
is_gap has_labels c = c == 58 || (has_labels && is_ascii_whitespace c)

-- the words that GNU Backgammon prints before its IDs, and the empty one
abbrev pub is_label : List ℕ → Bool
is_label word = bytes_eq word (codes "") || bytes_eq word (codes "GNU")
    || bytes_eq word (codes "Backgammon") || bytes_eq word (codes "Position")
    || bytes_eq word (codes "Match") || bytes_eq word (codes "ID")

-- the parts that say something
abbrev pub is_part : Bool → List ℕ → Bool
is_part has_labels part = not has_labels || not (is_label part)

-- the parts of a text
abbrev pub parts : Bool → List ℕ → List (List ℕ)
parts has_labels text = filter (is_part has_labels) (slice_split (is_gap has_labels) text)
