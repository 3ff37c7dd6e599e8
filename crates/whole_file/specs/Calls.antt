-- What the calls of a disk answer.
use Rattle.std.specs.Prelude.{◌≡◌, ◌≢◌, ℕ, ◌⊎◌, List, [], Bool, true, false, IsTrue, Option, Some, None, Result, OnOk}
use Rattle.std.specs.String.{string_bytes}
use Rattle.whole_file.specs.Disks.{Moment, Steps, Creates, Removes, SettlesNames}
use Rattle.whole_file.specs.Paths.{Paths}
use Rattle.whole_file.specs.declared.disk.Link.{Link}
use Rattle.whole_file.specs.declared.disk.Link.TheVariants.{To, Not}
use Rattle.whole_file.specs.declared.disk.Made.{Made}
use Rattle.whole_file.specs.declared.disk.Made.TheVariants.{File, Taken, Refused}

-- what is answered of a path that leads there, if it names a link
abbrev pub AnswersLink : Option (List ℕ) → Link → Type 0
AnswersLink target (To path) = target ≡ Some (string_bytes path)
AnswersLink target Not = target ≡ None

-- a file was made that has no bytes yet, or nothing changed
abbrev pub AnswersMade : {F : Type 0} → (F → Option (List ℕ)) → ℕ × List ℕ
    → Option (List Moment) → Option (List Moment) → Made F → Type 0
AnswersMade contents place old new (File file) = Steps (Creates place) old new
    × ((moments : List Moment) → old ≡ Some moments → contents file ≡ Some [])
AnswersMade contents place old new Taken = new ≡ old
AnswersMade contents place old new Refused = new ≡ old

-- a file was made, or its name is another one's
abbrev pub IsAllowed : {F : Type 0} → Made F → Type 0
IsAllowed (File file) = Unit {0}
IsAllowed Taken = Unit {0}
IsAllowed Refused = ⊥

-- the names of a folder were made sure of, or they can't be
abbrev pub AnswersSettled : Paths → ℕ → Option (List Moment) → Option (List Moment) → Bool
    → Type 0
AnswersSettled paths folder old new true = Steps (SettlesNames folder) old new
AnswersSettled paths folder old new false = IsTrue (paths.fleeting folder) × (new ≡ old)

-- a file was closed, and that it has these bytes is told where they are known
abbrev pub Closes : {T E : Type 0} → Result T E → Option (List ℕ) → (List ℕ → Type 0) → Type 0
Closes result contents Closed =
    OnOk result ((bytes : List ℕ) → contents ≡ Some bytes → Closed bytes)

-- the file at a place was taken away, or nothing changed
abbrev pub RemovesOrStays : ℕ × List ℕ → Option (List Moment) → Option (List Moment) → Type 0
RemovesOrStays place old new = Steps (Removes place) old new ⊎ (new ≡ old)

-- a file was made beside a place, which is another one, or nothing changed
abbrev pub AnswersBeside : {F : Type 0} → (F → Option (List ℕ)) → ℕ × List ℕ → ℕ × List ℕ
    → Option (List Moment) → Option (List Moment) → Made F → Type 0
AnswersBeside contents place new_place old new (File file) = (new_place ≢ place)
    × Steps (Creates new_place) old new
    × ((moments : List Moment) → old ≡ Some moments → contents file ≡ Some [])
AnswersBeside contents place new_place old new Taken = new ≡ old
AnswersBeside contents place new_place old new Refused = new ≡ old
