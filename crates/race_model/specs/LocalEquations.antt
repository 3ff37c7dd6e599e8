-- The checker's view: each record is tested against records of lower rank alone. The equations are
-- those of a book, over so many sequences; those of a file are its book's, over all sequences of 22
-- throws.
use Rattle.std.specs.Prelude.{◌≡◌, ℕ, zero, suc, ◌+◌, ◌*◌, ◌^◌, ◌≤◌, List}
use Rattle.race_model.specs.Positions.{Board, IsPosition, IsFinished, pips}
use Rattle.race_model.specs.Dice.{Throw, IsRoll, weighted}
use Rattle.race_model.specs.Plays.{Legal}
use Rattle.race_model.specs.Strategies.{EndsIn}
use Rattle.race_model.specs.Books.{Book, mean_in, play_in, recorded_in, share_in, whole_in, IsPlayedIn}
use Rattle.race_model.specs.Files.{IsFileBy, version_of, bound_of, book_of}
use Rattle.race_model.specs.RightFiles.{Kind, database}

-- the least equation, beside the play equation, `IsPlayedIn`: no result of the throw has a smaller
-- mean
abbrev pub IsBestIn : Book → Board → Throw → Type 0
IsBestIn f x v = (z : Board) → Legal x v z → f.means (play_in f x v) ≤ mean_in f z

-- the mean equation, over so many sequences: no roll for the finished position, else one and the
-- mean of what is said
pub record HasMeanOver (over : ℕ) (f : Book) (x : Board) : Type 0 where
  pub at_end : IsFinished x → mean_in f x ≡ 0
  pub before : ¬ IsFinished x →
      36 * mean_in f x ≡ 36 * over + weighted (λ v. f.means (play_in f x v))

-- the spread equation at k rolls: the finished position has its whole share at 0 rolls, and any
-- other position has none there; the other shares of the finished position are none, and those of
-- any other position are the mean of the shares of what is said, at one roll fewer
abbrev pub HasShareOver : ℕ → Book → Board → ℕ → Type 0
HasShareOver over f x zero =
    (IsFinished x → share_in f x 0 ≡ over) × (¬ IsFinished x → share_in f x 0 ≡ 0)
HasShareOver over f x (suc k) =
    (IsFinished x → share_in f x (suc k) ≡ 0)
    × (¬ IsFinished x →
    36 * share_in f x (suc k) ≡ weighted (λ v. f.shares (play_in f x v) k))

-- the play, least and mean equations of a position
pub record HasLeastMeanOver (over : ℕ) (f : Book) (x : Board) : Type 0 where
  pub played : (v : Throw) → IsRoll v → IsPlayedIn f x v
  pub best : (v : Throw) → IsRoll v → IsBestIn f x v
  pub mean_is : HasMeanOver over f x

-- all four equations of a position
pub record IsLocalOver (over : ℕ) (f : Book) (x : Board) : Type 0 where
  pub means : HasLeastMeanOver over f x
  pub shares : (k : ℕ) → k ≤ suc f.further → HasShareOver over f x k

-- by a book, over its sequences: the mean equation
abbrev pub HasMeanIn : Book → Board → Type 0
HasMeanIn f = HasMeanOver (whole_in f) f

-- by a book, over its sequences: the spread equation
abbrev pub HasShareIn : Book → Board → ℕ → Type 0
HasShareIn f = HasShareOver (whole_in f) f

-- by a book, over its sequences: the play, least and mean equations
abbrev pub HasLeastMeanIn : Book → Board → Type 0
HasLeastMeanIn f = HasLeastMeanOver (whole_in f) f

-- by a book, over its sequences: all four equations
abbrev pub IsLocalIn : Book → Board → Type 0
IsLocalIn f = IsLocalOver (whole_in f) f

-- a locally right book: the four equations hold for every position of at most its bound
abbrev pub IsLocalBook : Book → Type 0
IsLocalBook f = (x : Board) → IsPosition x → pips x ≤ f.bound → IsLocalIn f x

-- no game from a position of at most the bound of a book is longer than its sequences
abbrev pub IsLong : Book → Type 0
IsLong f = (x : Board) → IsPosition x → pips x ≤ f.bound → EndsIn (suc f.further) x

-- the denominator of every number in a file
unfoldable pub whole : ℕ
whole = 36 ^ 22

-- the position that is recorded for a throw
abbrev pub recorded : List ℕ → Board → Throw → Board
recorded f = recorded_in (book_of f)

-- the play equation by a file
abbrev pub IsPlayed : List ℕ → Board → Throw → Type 0
IsPlayed f = IsPlayedIn (book_of f)

-- the least equation by a file
abbrev pub IsBest : List ℕ → Board → Throw → Type 0
IsBest f = IsBestIn (book_of f)

-- the mean equation by a file, over the sequences of 22 throws
abbrev pub HasMean : List ℕ → Board → Type 0
HasMean f = HasMeanOver whole (book_of f)

-- the spread equation by a file
abbrev pub HasShare : List ℕ → Board → ℕ → Type 0
HasShare f = HasShareOver whole (book_of f)

-- the first three of a position by a file
abbrev pub HasLeastMean : List ℕ → Board → Type 0
HasLeastMean f = HasLeastMeanOver whole (book_of f)

-- all four equations by a file
abbrev pub IsLocalAt : List ℕ → Board → Type 0
IsLocalAt f = IsLocalOver whole (book_of f)

-- a locally right file of a kind, by the equations over so many sequences: they hold for every
-- position of at most its bound
pub record IsLocalBy (over : ℕ) (kind : Kind) (f : List ℕ) : Type 0 where
  pub file : IsFileBy kind.layout f
  pub written : (x : Board) → IsPosition x → pips x ≤ bound_of f → kind.written f x
  pub at_each : (x : Board) → IsPosition x → pips x ≤ bound_of f → IsLocalOver over (kind.book f) x

-- a locally right database
abbrev pub IsLocalDatabase : List ℕ → Type 0
IsLocalDatabase f = IsLocalBy whole (database (version_of f)) f
