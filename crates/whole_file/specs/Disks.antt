-- A disk: what its names have, and what a crash may leave of it.
use Rattle.std.specs.Prelude.{◌≡◌, ◌≢◌, ℕ, ◌⊎◌, List, [], ◌∷◌, ◌++◌, Bool, IsTrue, Option, Some, None}

-- a disk at one moment, and what a crash at that moment may leave of it. A place is a name in a
-- folder, which is a number; a file is a number, too
pub record Moment : Type 0 where
  -- the file that stands at a place
  pub at : ℕ × List ℕ → Option ℕ
  -- after a crash this file, or none, may stand there
  pub may_be_at : ℕ × List ℕ → Option ℕ → Bool
  -- the bytes of a file that were made sure of. A crash may leave any in another one
  pub sure : ℕ → Option (List ℕ)

-- the file at a place has these bytes, and they were made sure of
abbrev pub Holds : Moment → ℕ × List ℕ → List ℕ → Type 0
Holds disk place bytes =
    (file : ℕ) × (disk.at place ≡ Some file) × (disk.sure file ≡ Some bytes)

-- a crash may leave a file of these bytes at the place, or none
abbrev pub MayLeave : Moment → ℕ × List ℕ → Option (List ℕ) → Type 0
MayLeave disk place None = IsTrue (disk.may_be_at place None)
MayLeave disk place (Some bytes) = (file : ℕ) × IsTrue (disk.may_be_at place (Some file))
    × ((sure : List ℕ) → disk.sure file ≡ Some sure → bytes ≡ sure)

-- at a place stands what stood there, also after a crash
pub record IsSameAt (place : ℕ × List ℕ) (old new : Moment) : Type 0 where
  pub at : new.at place ≡ old.at place
  pub crash : (e : Option ℕ) → IsTrue (new.may_be_at place e) → IsTrue (old.may_be_at place e)
  pub sure : (file : ℕ) → IsTrue (new.may_be_at place (Some file))
      → new.sure file ≡ old.sure file

-- each of these is so
abbrev pub AllOf : (Moment → Type 0) → List Moment → Type 0
AllOf Each [] = Unit {0}
AllOf Each (disk ∷ disks) = Each disk × AllOf Each disks

-- a file was made at a place where none was
pub record Creates (place : ℕ × List ℕ) (old new : Moment) : Type 0 where
  pub free : old.at place ≡ None
  pub file : ℕ
  pub made : new.at place ≡ Some file
  pub is_new : (p : ℕ × List ℕ) → IsTrue (old.may_be_at p (Some file)) → ⊥
  pub others : (p : ℕ × List ℕ) → p ≢ place → new.at p ≡ old.at p
  pub crash : (p : ℕ × List ℕ) (e : Option ℕ) → IsTrue (new.may_be_at p e)
      → IsTrue (old.may_be_at p e) ⊎ ((p ≡ place) × (e ≡ Some file))
  pub sure : new.sure ≡ old.sure

-- these bytes of the file at a place were made sure of
pub record Settles (place : ℕ × List ℕ) (bytes : List ℕ) (old new : Moment) : Type 0 where
  pub at : new.at ≡ old.at
  pub crash : new.may_be_at ≡ old.may_be_at
  pub settled : (file : ℕ) → old.at place ≡ Some file → new.sure file ≡ Some bytes
  pub others : (file : ℕ) → old.at place ≢ Some file → new.sure file ≡ old.sure file

-- a file went from one place to another, where it may have taken the place of an old one
pub record Renames (from to : ℕ × List ℕ) (old new : Moment) : Type 0 where
  pub moved : new.at to ≡ old.at from
  pub gone : from ≢ to → new.at from ≡ None
  pub others : (p : ℕ × List ℕ) → p ≢ from → p ≢ to → new.at p ≡ old.at p
  pub crash : (p : ℕ × List ℕ) (e : Option ℕ) → IsTrue (new.may_be_at p e)
      → IsTrue (old.may_be_at p e) ⊎ ((p ≡ to) × (e ≡ old.at from)) ⊎ ((p ≡ from) × (e ≡ None))
  pub sure : new.sure ≡ old.sure

-- the file at a place was taken away
pub record Removes (place : ℕ × List ℕ) (old new : Moment) : Type 0 where
  pub gone : new.at place ≡ None
  pub others : (p : ℕ × List ℕ) → p ≢ place → new.at p ≡ old.at p
  pub crash : (p : ℕ × List ℕ) (e : Option ℕ) → IsTrue (new.may_be_at p e)
      → IsTrue (old.may_be_at p e) ⊎ ((p ≡ place) × (e ≡ None))
  pub sure : new.sure ≡ old.sure

-- the names of a folder were made sure of
pub record SettlesNames (folder : ℕ) (old new : Moment) : Type 0 where
  pub at : new.at ≡ old.at
  pub crash : (p : ℕ × List ℕ) (e : Option ℕ) → IsTrue (new.may_be_at p e)
      → IsTrue (old.may_be_at p e)
  pub settled : (name : List ℕ) (e : Option ℕ) → IsTrue (new.may_be_at (folder, name) e)
      → e ≡ old.at (folder, name)
  pub sure : new.sure ≡ old.sure

-- where a disk tells its moments, the last of them first, a call made one more, by this step
abbrev pub Steps : (Moment → Moment → Type 0) → Option (List Moment) → Option (List Moment)
    → Type 0
Steps Step old new = (now : Moment) (past : List Moment) → old ≡ Some (now ∷ past)
    → (next : Moment) × (new ≡ Some (next ∷ now ∷ past)) × Step now next

-- the moments of a disk went on from these, and each that came since is so
pub record Goes (Each : Moment → Type 0) (start : List Moment)
    (told : Option (List Moment)) : Type 0 where
  pub since : List Moment
  pub told_is : told ≡ Some (since ++ start)
  pub each : AllOf Each since

-- where a disk tells its moments, each that came since is so, as seen from the first one
abbrev pub Runs : (Moment → Moment → Type 0) → Option (List Moment) → Option (List Moment)
    → Type 0
Runs Each old new = (first : Moment) (past : List Moment) → old ≡ Some (first ∷ past)
    → Goes (Each first) (first ∷ past) new

-- where a disk tells its moments, it stays as it was
abbrev pub IsStill : Option (List Moment) → Option (List Moment) → Type 0
IsStill old new = (first : Moment) (past : List Moment) → old ≡ Some (first ∷ past) → new ≡ old

-- no file stands at a place
abbrev pub IsFree : ℕ × List ℕ → Moment → Type 0
IsFree place disk = disk.at place ≡ None

-- a place stays as it was
abbrev pub StaysAt : ℕ × List ℕ → Option (List Moment) → Option (List Moment) → Type 0
StaysAt place old new = Runs (IsSameAt place) old new

-- where a disk tells its moments, this holds of the last of them
abbrev pub Lastly : (Moment → Type 0) → Option (List Moment) → Type 0
Lastly Holds told = (now : Moment) (past : List Moment) → told ≡ Some (now ∷ past) → Holds now
