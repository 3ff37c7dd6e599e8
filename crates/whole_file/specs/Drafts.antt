-- A draft: a new file that is to take the place of an old one.
use Rattle.std.specs.Prelude.{◌≡◌, ◌≢◌, ℕ, ◌⊎◌, List, [], ◌∷◌, IsTrue, Option, Some, None, Result, Ok, Err}
use Rattle.std.specs.String.{string_bytes}
use Rattle.whole_file.specs.Disks.{Moment, Holds, IsFree, IsSameAt, MayLeave, Goes, Lastly}
use Rattle.whole_file.specs.Paths.{Paths, IsFixed, LeadsTo, PathStays, folder_of, place_of}
use Rattle.whole_file.specs.declared.draft.Names.{Names}
use Rattle.whole_file.specs.declared.fault.DraftFault.{DraftFault}

-- the file at the first of the names is a draft for the second one, which is another place, and
-- where no crash leaves it
pub record IsDraft (paths : Paths) (names : Names) (disk : Moment) : Type 0 where
  pub file : ℕ
  pub stands : disk.at (place_of paths (string_bytes names.new)) ≡ Some file
  pub apart :
      place_of paths (string_bytes names.new) ≢ place_of paths (string_bytes names.place)
  pub unknown : IsTrue (disk.may_be_at (place_of paths (string_bytes names.place)) (Some file))
      → ⊥
  pub folder : string_bytes names.folder ≡ folder_of (string_bytes names.place)

-- a crash leaves at a place what it might have left before, or a file of which this holds
abbrev pub IsOldOrWhole : ℕ × List ℕ → (List ℕ → Type 0) → Moment → Moment → Type 0
IsOldOrWhole place Whole old disk = (left : Option (List ℕ)) → MayLeave disk place left
    → MayLeave old place left ⊎ ((bytes : List ℕ) × (left ≡ Some bytes) × Whole bytes)

-- a crash leaves at a place a file of which this holds
abbrev pub IsWhole : ℕ × List ℕ → (List ℕ → Type 0) → Moment → Type 0
IsWhole place Whole disk = (left : Option (List ℕ)) → MayLeave disk place left
    → (bytes : List ℕ) × (left ≡ Some bytes) × Whole bytes

-- no crash leaves the file at the first of the names at another place
abbrev pub IsOwn : Paths → Names → Moment → Type 0
IsOwn paths names disk = (p : ℕ × List ℕ) → p ≢ place_of paths (string_bytes names.new)
    → (file : ℕ) → disk.at (place_of paths (string_bytes names.new)) ≡ Some file
    → IsTrue (disk.may_be_at p (Some file)) → ⊥

-- a file was made at the first of the names, where none stood, and each other place is as it was
pub record IsAlone (paths : Paths) (names : Names) (first : Moment) (past : List Moment)
    (told : Option (List Moment)) : Type 0 where
  pub now : Moment
  pub told_is : told ≡ Some (now ∷ first ∷ past)
  pub free : first.at (place_of paths (string_bytes names.new)) ≡ None
  pub own : IsOwn paths names now
  pub others : (p : ℕ × List ℕ) → p ≢ place_of paths (string_bytes names.new)
      → IsSameAt p first now

-- a new file without bytes is a draft by these names
abbrev pub IsReady : Paths → Names → Option (List ℕ) → Option (List Moment)
    → Option (List Moment) → Type 0
IsReady paths names contents old new = (first : Moment) (past : List Moment)
    → old ≡ Some (first ∷ past) → Lastly (IsDraft paths names) new × (contents ≡ Some [])
    × IsAlone paths names first past new

-- how the last steps end: the place has these bytes, and a crash leaves nothing else, or the names
-- of the folder can't be made sure of; or what was there stays, or the bytes have taken its place
abbrev pub Ends : {T : Type 0} → Paths → List ℕ → List ℕ → Moment → Result T DraftFault
    → Moment → Type 0
Ends paths path bytes first (Ok done) now = Holds now (place_of paths path) bytes
    × (IsWhole (place_of paths path) (λ b. b ≡ bytes) now
    ⊎ IsTrue (paths.fleeting (paths.folder (folder_of path))))
Ends paths path bytes first (Err fault) now =
    (now.at (place_of paths path) ≡ first.at (place_of paths path))
    ⊎ Holds now (place_of paths path) bytes

-- the last steps: at each moment a crash leaves the old file or these bytes
pub record Finishes {T : Type 0} (paths : Paths) (path : List ℕ) (bytes : List ℕ)
    (first : Moment) (past : List Moment) (told : Option (List Moment))
    (result : Result T DraftFault) : Type 0 where
  pub goes : Goes (IsOldOrWhole (place_of paths path) (λ b. b ≡ bytes) first) (first ∷ past) told
  pub ends : Lastly (Ends paths path bytes first result) told

-- a file was begun: beside the place to which a path leads, which stays as it was, or straight, as
-- no file can take that place, and then the disk tells nothing more
abbrev pub IsBegun : Paths → List ℕ → Option Names → Option (List ℕ) → Option (List Moment)
    → Option (List Moment) → Type 0
IsBegun paths path None contents old new =
    (first : Moment) (past : List Moment) → old ≡ Some (first ∷ past)
    → (new ≡ None) × IsFixed paths path
IsBegun paths path (Some names) contents old new = PathStays paths path old new
    × IsReady paths names contents old new
    × ((first : Moment) (past : List Moment) → old ≡ Some (first ∷ past)
    → LeadsTo paths path (string_bytes names.place))

-- a file was ended: one beside the place that it is to take went there as a whole, or it is gone;
-- where one was written straight the disk tells nothing
abbrev pub IsPut : {T : Type 0} → Paths → Option Names → Option (List ℕ) → Option (List Moment)
    → Option (List Moment) → Result T DraftFault → Type 0
IsPut paths None contents old new result = old ≡ None → new ≡ None
IsPut paths (Some names) contents old new result = (bytes : List ℕ) (first : Moment)
    (past : List Moment) → contents ≡ Some bytes → old ≡ Some (first ∷ past)
    → IsDraft paths names first
    → Finishes paths (string_bytes names.place) bytes first past new result

-- a file was ended at which a fault came: the place of one that was written beside it stays as it
-- was; where one was written straight the disk tells nothing
abbrev pub IsDropped : Paths → Option Names → Option (List Moment) → Option (List Moment) → Type 0
IsDropped paths None old new = old ≡ None → new ≡ None
IsDropped paths (Some names) old new = (first : Moment) (past : List Moment)
    → old ≡ Some (first ∷ past) → IsDraft paths names first
    → Goes (IsSameAt (place_of paths (string_bytes names.place)) first) (first ∷ past) new

-- a file was ended whose bytes are known, where they have to be: nothing stands under its first
-- name, or it has stayed there; and each place but its two stays as it was. Where one was written
-- straight the disk tells nothing
abbrev pub IsGone : Paths → Option Names → Option (List Moment) → Option (List Moment) → Type 0
    → Type 0 → Type 0
IsGone paths None old new Known Kept = old ≡ None → new ≡ None
IsGone paths (Some names) old new Known Kept = (first : Moment) (past : List Moment)
    → old ≡ Some (first ∷ past) → IsDraft paths names first → Known
    → (Lastly (IsFree (place_of paths (string_bytes names.new))) new ⊎ Kept)
    × (IsOwn paths names first → (p : ℕ × List ℕ)
    → p ≢ place_of paths (string_bytes names.new)
    → p ≢ place_of paths (string_bytes names.place) → Goes (IsSameAt p first) (first ∷ past) new)

-- each of these places stays as it was, but for that of a new file: none stood there at first, nor
-- does in the end, where the last file that was to be taken away has not stayed
pub record IsTidied (Other : ℕ × List ℕ → Type 0) (first : Moment) (past : List Moment)
    (told : Option (List Moment)) (Kept : Type 0) : Type 0 where
  pub draft : ℕ × List ℕ
  pub free : first.at draft ≡ None
  pub others : (p : ℕ × List ℕ) → p ≢ draft → Other p → Goes (IsSameAt p first) (first ∷ past) told
  pub gone : Lastly (IsFree draft) told ⊎ Kept

-- where a disk tells its moments, so it is of all places
abbrev pub IsTidy : Option (List Moment) → Option (List Moment) → Type 0 → Type 0
IsTidy old new Kept = (first : Moment) (past : List Moment) → old ≡ Some (first ∷ past)
    → (new ≡ old) ⊎ IsTidied (λ _. Unit {0}) first past new Kept

-- where a disk tells its moments, all other places and the one to which a path leads stay as they
-- were
abbrev pub IsLeft : Paths → List ℕ → Option (List Moment) → Option (List Moment) → Type 0 → Type 0
IsLeft paths path old new Kept = PathStays paths path old new × IsTidy old new Kept

-- where a disk tells its moments, all other places stay, or that one may have changed; or, as no
-- file can take that place, the old one was emptied, to be written straight, and the disk tells
-- nothing more
abbrev pub IsTidyBesides : Paths → List ℕ → Option (List Moment) → Option (List Moment) → Type 0
    → Type 0
IsTidyBesides paths path old new Kept = (first : Moment) (past : List Moment)
    → old ≡ Some (first ∷ past) → ((new ≡ None) × IsFixed paths path) ⊎ (new ≡ old)
    ⊎ IsTidied (λ p. (to : List ℕ) → LeadsTo paths path to → p ≢ place_of paths to)
    first past new Kept
