-- What happened on a disk, the last first, and what that left. Source: this project's profile.
use Rattle.std.specs.Prelude.{◌≡◌, ℕ, ◌==◌, List, [], ◌∷◌, Bool, true, false, ◌&&◌, ◌||◌, Option, Some, None}
use Rattle.std.specs.Prelude.{if◌then◌else◌}
use Rattle.std.specs.Borrow.{Bor}
use Rattle.std.specs.Prelude.{String}
use Rattle.std.specs.declared.alloc.Global.{Global}
use Rattle.std.specs.Str.{bytes_eq}
use Rattle.std.specs.String.{string_bytes}
use Rattle.whole_file.specs.Disks.{Moment}
use Rattle.whole_file.specs.Paths.{Paths}
use Rattle.disk_trials.specs.declared.events.Event.{Event}
use Rattle.disk_trials.specs.declared.events.Event.TheVariants.{Named, Settled, SettledNames}

-- whether a place is that of a name
abbrev pub has_name : ℕ × List ℕ → List ℕ → Bool
has_name place name = (place.0 == 0) && bytes_eq place.1 name

-- whether these are the same file, or none
abbrev pub is_same : Option ℕ → Option ℕ → Bool
is_same None None = true
is_same (Some a) (Some b) = a == b
is_same None (Some b) = false
is_same (Some a) None = false

-- the file at a place
abbrev pub at : List Event → ℕ × List ℕ → Option ℕ
at [] = λ place. None
at (Named from to file ∷ before) = λ place.
    if has_name place (string_bytes to) then file else
    if has_name place (string_bytes from) then None else at before place
at (Settled file bytes ∷ before) = at before
at (SettledNames ∷ before) = at before

-- whether a crash may leave this file, or none, at a place
abbrev pub left : List Event → ℕ × List ℕ → Option ℕ → Bool
left [] = λ place e. is_same e None
left (Named from to file ∷ before) = λ place e.
    (if has_name place (string_bytes to) then is_same e file
    else (has_name place (string_bytes from) && is_same e None)) || left before place e
left (Settled file bytes ∷ before) = left before
left (SettledNames ∷ before) = λ place e. is_same e (at before place)

-- the bytes of a file that were made sure of
abbrev pub sure : List Event → ℕ → Option (List ℕ)
sure [] = λ n. None
sure (Named from to file ∷ before) = sure before
sure (Settled file bytes ∷ before) = λ n. if n == file then Some bytes.items else sure before n
sure (SettledNames ∷ before) = sure before

-- whether a file ever had a name
abbrev pub mentions : List Event → ℕ → Bool
mentions [] n = false
mentions (Named from to file ∷ before) n = is_same (Some n) file || mentions before n
mentions (Settled file bytes ∷ before) n = mentions before n
mentions (SettledNames ∷ before) n = mentions before n

-- these are the bytes that were made sure of
abbrev pub settled_is : Option (Bor (List ℕ)) → Option (List ℕ) → Type 0
settled_is None sure = sure ≡ None
settled_is (Some bytes) sure = sure ≡ Some bytes.now

-- the disk after these events
abbrev pub moment : List Event → Moment
moment events = record { at = at events; may_be_at = left events; sure = sure events }

-- the moments before the last event
abbrev pub earlier : List Event → List Moment
earlier [] = []
earlier (event ∷ before) = moment before ∷ earlier before

-- one folder, no links, and the names can be made sure of
abbrev pub one_folder : Paths
one_folder =
    record { folder = λ _. 0; link = λ _. None; fleeting = λ _. false; fixed = λ _. false }

-- a name was taken away, and another one, or the same, given to a file, or to none
pub record IsNamed (from to : List ℕ) (file : Option ℕ) (old new : List Event) : Type 0 where
  pub gone : String Global
  pub given : String Global
  pub gone_is : string_bytes gone ≡ from
  pub given_is : string_bytes given ≡ to
  pub event : new ≡ Named gone given file ∷ old
