-- A whole file is put where a path leads.
use Rattle.std.specs.Prelude.{◌≡◌, ℕ, ◌⊎◌, List, ◌∷◌, IsTrue, Option, Some, None}
use Rattle.whole_file.specs.Disks.{Moment, Holds, Goes, Lastly}
use Rattle.whole_file.specs.Drafts.{IsOldOrWhole, IsWhole}
use Rattle.whole_file.specs.Paths.{Paths, IsFixed, LeadsTo, folder_of, place_of}

-- a file of which this holds stands where a path names it, and a crash leaves no other one, or the
-- names of its folder can't be made sure of
pub record Stands (paths : Paths) (path : List ℕ) (Whole : List ℕ → Type 0) (now : Moment)
    : Type 0 where
  pub bytes : List ℕ
  pub whole : Whole bytes
  pub stands : Holds now (place_of paths path) bytes
  pub stays : IsWhole (place_of paths path) (λ b. b ≡ bytes) now
      ⊎ IsTrue (paths.fleeting (paths.folder (folder_of path)))

-- such a file was put there, and at each moment a crash leaves the old one or such a one
pub record IsPutAt (paths : Paths) (path : List ℕ) (Whole : List ℕ → Type 0) (first : Moment)
    (past : List Moment) (told : Option (List Moment)) : Type 0 where
  pub goes : Goes (IsOldOrWhole (place_of paths path) Whole first) (first ∷ past) told
  pub ends : Lastly (Stands paths path Whole) told

-- where a disk tells its moments, a file of which this holds was put where a path leads; or, as
-- none can take that place, the old one was emptied, to be written straight, and the disk tells
-- nothing more
abbrev pub Puts : Paths → List ℕ → (List ℕ → Type 0) → Option (List Moment)
    → Option (List Moment) → Type 0
Puts paths path Whole old new = (first : Moment) (past : List Moment)
    → old ≡ Some (first ∷ past) → (to : List ℕ) → LeadsTo paths path to
    → ((new ≡ None) × IsFixed paths path) ⊎ IsPutAt paths to Whole first past new
