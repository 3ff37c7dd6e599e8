-- The text of a path: the folder before its last slash and the name behind it, and where a link
-- leads.
use Rattle.std.specs.Prelude.{◌≡◌, ℕ, zero, suc, ◌<◌, ◌⊎◌, Bool, true, IsTrue, ◌||◌, List, ◌∷◌, ◌++◌}
use Rattle.std.specs.Prelude.{Option, Some, None, codes, if◌then◌else◌}
use Rattle.std.specs.List.{starts_with}
use Rattle.std.specs.Prelude.{nat_eq}
use Rattle.std.specs.Path.{rsplit_once}
use Rattle.whole_file.specs.Disks.{Moment, Holds, IsSameAt, Lastly, Runs}

-- how the paths of a disk are read: the number of the folder that a text names, where a path leads
-- that names a link, of which folders the names can't be made sure of, and in which of them no file
-- can take the place of another
pub record Paths : Type 0 where
  pub folder : List ℕ → ℕ
  pub link : List ℕ → Option (List ℕ)
  pub fleeting : ℕ → Bool
  pub fixed : ℕ → Bool

-- the paths of a disk that tells nothing, of which no clause says anything
abbrev pub untold_paths : Paths
untold_paths = record {
  folder = λ _. 0;
  link = λ _. None;
  fleeting = λ _. true;
  fixed = λ _. true;
}

-- the folder in the two parts of a path, with a slash at its end
abbrev pub folder_in : Option (List ℕ × List ℕ) → List ℕ
folder_in None = codes "./"
folder_in (Some parts) = parts.0 ++ codes "/"

-- the text of the folder that a path lies in
abbrev pub folder_of : List ℕ → List ℕ
folder_of path = folder_in (rsplit_once 47 path)

-- the name in the two parts of a path, which has no other one
abbrev pub name_in : List ℕ → Option (List ℕ × List ℕ) → List ℕ
name_in path None = path
name_in path (Some parts) = parts.1

-- the name of a path in its folder
abbrev pub name_of : List ℕ → List ℕ
name_of path = name_in path (rsplit_once 47 path)

-- the place that a path names
abbrev pub place_of : Paths → List ℕ → ℕ × List ℕ
place_of paths path = (paths.folder (folder_of path), name_of path)

-- where a link leads whose target is this: from the root, or from the folder that the link lies in
abbrev pub linked : List ℕ → List ℕ → List ℕ
linked path target =
    if starts_with nat_eq target (codes "/") then target else folder_of path ++ target

-- a path leads to another one over so many links
abbrev pub LeadsBy : ℕ → Paths → List ℕ → List ℕ → Type 0
LeadsBy zero paths from to = to ≡ from
LeadsBy (suc n) paths from to = (target : List ℕ) × (paths.link from ≡ Some target)
    × LeadsBy n paths (linked from target) to

-- a path leads over its links to this one, which is none
pub record LeadsTo (paths : Paths) (from to : List ℕ) : Type 0 where
  pub links : ℕ
  pub leads : LeadsBy links paths from to
  pub last : paths.link to ≡ None

-- at the place to which a path leads stands what stood there, also after a crash
abbrev pub IsSameBehind : Paths → List ℕ → Moment → Moment → Type 0
IsSameBehind paths path old new =
    (to : List ℕ) → LeadsTo paths path to → IsSameAt (place_of paths to) old new

-- the place to which a path leads stays as it was, also after a crash
abbrev pub PathStays : Paths → List ℕ → Option (List Moment) → Option (List Moment) → Type 0
PathStays paths path old new = Runs (IsSameBehind paths path) old new

-- where a disk tells its moments, a reader has left the bytes of the file to which a path leads,
-- where they were made sure of
abbrev pub ReadsBehind : Paths → List ℕ → Option (List Moment) → Option (List ℕ) → Type 0
ReadsBehind paths path told left = Lastly (λ now. (to bytes : List ℕ) → LeadsTo paths path to
    → Holds now (place_of paths to) bytes → left ≡ Some bytes) told

-- whether a path is the name of an open file
abbrev pub is_open_name : List ℕ → Bool
is_open_name path = starts_with nat_eq path (codes "/dev/std")
    || starts_with nat_eq path (codes "/dev/fd/") || starts_with nat_eq path (codes "/proc/")

-- no file can take the place to which a path leads: over its links it leads to the name of an open
-- file, or over more than 40 of them, or into a folder in which no file can do so
pub record IsFixed (paths : Paths) (path : List ℕ) : Type 0 where
  pub links : ℕ
  pub to : List ℕ
  pub leads : LeadsBy links paths path to
  pub why : (is_open_name to ≡ true) ⊎ (40 < links)
      ⊎ ((paths.link to ≡ None) × IsTrue (paths.fixed (paths.folder (folder_of to))))

-- no file can take the place to which a path leads, on a disk that tells its moments
abbrev pub IsFixedOn : Paths → List ℕ → Option (List Moment) → Type 0
IsFixedOn paths path told =
    (first : Moment) (past : List Moment) → told ≡ Some (first ∷ past) → IsFixed paths path
