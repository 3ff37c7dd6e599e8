-- What stands where a path leads once a command has written a file there, and what a command leaves
-- of the disk and of its input, however it ends.
use Rattle.std.specs.Prelude.{◌≡◌, ℕ, ◌<◌, ◌⊎◌, List, ◌∷◌, Option, Some, None, Result, IfErr}
use Rattle.std.specs.String.{string_bytes}
use Rattle.race_model.specs.Prelude.{version_of, IsRightDatabase, IsUpgrade, full}
use Rattle.command_line.specs.Asked.{Asked, IsAskedBy, default, build, query, show, upgrade}
use Rattle.whole_file.specs.Disks.{Moment, Goes, Holds, Lastly}
use Rattle.whole_file.specs.Drafts.{IsDraft, IsOldOrWhole, IsTidyBesides}
use Rattle.whole_file.specs.Paths.{Paths, IsFixed, LeadsTo, place_of}
use Rattle.whole_file.specs.Puts.{Puts}
use Rattle.whole_file.specs.declared.draft.Names.{Names}
use Rattle.bearoff_cli.specs.FileAnswers.{IsReadFrom}
use Rattle.bearoff_cli.specs.Kinds.{IsBuiltOf}
use Rattle.bearoff_cli.specs.Faults.{status_of}
use Rattle.bearoff_cli.specs.declared.fault.Fault.{Fault}

-- what a request that was fulfilled has put where its path leads, where it writes a file: the built
-- file, or the upgrade of the file that was read, a right database of version 1
abbrev pub PutsFor : {F : Type 0} → (F → Option (List ℕ)) → Paths → Asked → Option (List Moment)
    → Option (List Moment) → Type 0
PutsFor remaining paths (build kind pips path) old new =
    Puts paths path (IsBuiltOf kind pips) old new
PutsFor remaining paths (upgrade before after) old new = (file : List ℕ)
    × IsReadFrom remaining paths old before file × IsRightDatabase file × (version_of file ≡ full)
    × Puts paths after (IsUpgrade file) old new
PutsFor remaining paths _ old new = Unit {0}

-- at each moment a crash leaves at a path what it might have left at first, or a file of which this
-- holds; and in the end there stands what stood there, or such a file
pub record IsKeptAt (paths : Paths) (path : List ℕ) (Whole : List ℕ → Type 0) (first : Moment)
    (past : List Moment) (told : Option (List Moment)) : Type 0 where
  pub goes : Goes (IsOldOrWhole (place_of paths path) Whole first) (first ∷ past) told
  pub ends : Lastly (λ now. (now.at (place_of paths path) ≡ first.at (place_of paths path))
      ⊎ ((bytes : List ℕ) × Whole bytes × Holds now (place_of paths path) bytes)) told

-- where a disk tells its moments, so it is where a path leads; or, as no file can take that place,
-- the old one was emptied, to be written straight, and the disk tells nothing more
abbrev pub KeepsBehind : Paths → List ℕ → (List ℕ → Type 0) → Option (List Moment)
    → Option (List Moment) → Type 0
KeepsBehind paths path Whole old new = (first : Moment) (past : List Moment)
    → old ≡ Some (first ∷ past) → (to : List ℕ) → LeadsTo paths path to
    → ((new ≡ None) × IsFixed paths path) ⊎ IsKeptAt paths to Whole first past new

-- a disk that tells its moments keeps all places but the one to which a path leads
abbrev pub KeepsAll : Paths → List ℕ → (List ℕ → Type 0) → Option (List Moment)
    → Option (List Moment) → Type 0 → Type 0
KeepsAll paths path Whole old new Kept =
    KeepsBehind paths path Whole old new × IsTidyBesides paths path old new Kept

-- a file was ended which was written to its end as these bytes, and its place is kept so
abbrev pub IsEnded : Paths → Option Names → Option (List ℕ) → Option (List Moment)
    → Option (List Moment) → Type 0
IsEnded paths None contents old new = old ≡ None → new ≡ None
IsEnded paths (Some names) contents old new = (bytes : List ℕ) (first : Moment)
    (past : List Moment) → contents ≡ Some bytes → old ≡ Some (first ∷ past)
    → IsDraft paths names first
    → IsKeptAt paths (string_bytes names.place) (λ b. b ≡ bytes) first past new

-- what a request leaves of the disk, however it ends: all of it, where it writes no file, or
-- upgrades none; else, where its path leads, the old file or the whole new one, and all others
abbrev pub LeavesFor : {F : Type 0} → (F → Option (List ℕ)) → Paths → Asked → Option (List Moment)
    → Option (List Moment) → Type 0 → Type 0
LeavesFor remaining paths (build kind pips path) old new Kept =
    KeepsAll paths path (IsBuiltOf kind pips) old new Kept
LeavesFor remaining paths (upgrade before after) old new Kept = (new ≡ old)
    ⊎ ((file : List ℕ) × IsReadFrom remaining paths old before file × IsRightDatabase file
    × (version_of file ≡ full) × KeepsAll paths after (IsUpgrade file) old new Kept)
LeavesFor remaining paths _ old new Kept = new ≡ old

-- what a request leaves of the input, however it ends: all of it, where it answers no lines of it
abbrev pub LeavesInput : Asked → Option (List ℕ) → Option (List ℕ) → Type 0
LeavesInput default input left = Unit {0}
LeavesInput (query kind path records) input left = Unit {0}
LeavesInput (show is_json texts) input left = Unit {0}
LeavesInput _ input left = left ≡ input

-- words that ask for nothing, or for help, leave both as they were
abbrev pub LeavesBy : {F : Type 0} → (F → Option (List ℕ)) → Paths → List (List ℕ)
    → Option (List Moment) → Option (List Moment) → Type 0 → Option (List ℕ) → Option (List ℕ)
    → Type 0
LeavesBy remaining paths words old new Kept input left = ((new ≡ old) × (left ≡ input))
    ⊎ ((asked : Asked) × IsAskedBy words asked × LeavesFor remaining paths asked old new Kept
    × LeavesInput asked input left)

-- the output, or the disk, is as it was where the program ends with the status of a bound that is
-- too large, or of a refused database
abbrev pub KeepsIfRefused : {T X : Type 0} → Result T Fault → X → X → Type 0
KeepsIfRefused result old new = IfErr result (λ fault. 1 < status_of fault → new ≡ old)
