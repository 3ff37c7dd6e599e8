-- What a prompt hands on of an input.
use Rattle.std.specs.Prelude.{◌≡◌, ◌⊎◌, ◌||◌, Bool, true, ℕ, zero, suc, List, [], ◌++◌, Option, Some, None, codes}
use Rattle.std.specs.Str.{bytes_eq}
use Rattle.std.specs.Io.KnownBytes.{Consumes}

-- all that is left of it where nobody types at a terminal; else nothing is told
abbrev pub handed_on : {T : Type 0} → Option (List ℕ) → Option T → Option (List ℕ)
handed_on left None = left
handed_on left (Some terminal) = None

-- whether a line is empty, or `help`
abbrev pub is_help : List ℕ → Bool
is_help line = bytes_eq line (codes "\n") || bytes_eq line (codes "help\n")

-- the bytes are so many such lines
abbrev pub AreHelps : ℕ → List ℕ → Type 0
AreHelps zero bytes = bytes ≡ []
AreHelps (suc n) bytes = (before line : List ℕ) × AreHelps n before
    × (is_help line ≡ true) × (bytes ≡ before ++ line)

-- such lines, which are answered by a help, and then these bytes were read of an input
abbrev pub HandsOn : Option (List ℕ) → Option (List ℕ) → List ℕ → Type 0
HandsOn old new given = (n : ℕ) × (helps : List ℕ) × AreHelps n helps
    × Consumes old new (helps ++ given)

-- such lines were answered by a help, and these bytes were handed on, or none of a line that is
-- `quit`
abbrev pub IsTyped : Option (List ℕ) → Option (List ℕ) → List ℕ → Type 0
IsTyped old new given =
    HandsOn old new given ⊎ ((given ≡ []) × HandsOn old new (codes "quit\n"))
