-- What is recorded for the rolls of a position, by any means that go by ranks; and the same said of
-- a book.
use Rattle.std.specs.Prelude.{◌≡◌, ℕ, ◌<◌, ◌≤◌}
use Rattle.race_model.specs.Prelude.{Board, Throw, roll_at, Legal, rank, at_rank, Book, IsPlayedIn, IsBestIn}
use Rattle.least_plays.specs.declared.recorded.PlayFault.{PlayFault}
use Rattle.least_plays.specs.declared.recorded.PlayFault.TheVariants.{NotLegal, NotLeast}
use Rattle.least_plays.specs.declared.recorded.RefusedPlay.{RefusedPlay}

-- the number is the rank of a result of the throw
abbrev pub IsResult : Board → Throw → ℕ → Type 0
IsResult x v r = Legal x v (at_rank r) × (rank (at_rank r) ≡ r)

-- no result of the throw has a smaller mean than the number
abbrev pub IsLeastOfAll : (ℕ → ℕ) → Board → Throw → ℕ → Type 0
IsLeastOfAll mean x v r = (z : Board) → Legal x v z → mean r ≤ mean (rank z)

-- both
pub record IsLeastPlay (mean : ℕ → ℕ) (x : Board) (v : Throw) (r : ℕ) : Type 0 where
  pub result : IsResult x v r
  pub least : IsLeastOfAll mean x v r

-- the first of them fails, or it holds and the second fails
abbrev pub IsRefused : (ℕ → ℕ) → Board → Throw → ℕ → PlayFault → Type 0
IsRefused mean x v r NotLegal = ¬ IsResult x v r
IsRefused mean x v r NotLeast = IsResult x v r × (¬ IsLeastOfAll mean x v r)

-- of the rolls it is the first for which what is recorded is refused
pub record IsFirstRefused (mean plays : ℕ → ℕ) (x : Board) (refused : RefusedPlay) : Type 0 where
  pub is_roll : refused.roll < 21
  pub applies : IsRefused mean x (roll_at refused.roll) (plays refused.roll) refused.fault
  pub earlier : (i : ℕ) → i < refused.roll → IsLeastPlay mean x (roll_at i) (plays i)

-- the play equation of a book fails, or it holds and the least equation fails
abbrev pub IsRefusedIn : Book → Board → Throw → PlayFault → Type 0
IsRefusedIn f x v NotLegal = ¬ IsPlayedIn f x v
IsRefusedIn f x v NotLeast = IsPlayedIn f x v × (¬ IsBestIn f x v)

-- of all rolls this is the first at which the play equation fails, or the least equation
pub record IsFirstRefusedIn (f : Book) (x : Board) (refused : RefusedPlay) : Type 0 where
  pub is_roll : refused.roll < 21
  pub applies : IsRefusedIn f x (roll_at refused.roll) refused.fault
  pub earlier : (i : ℕ) → i < refused.roll → IsPlayedIn f x (roll_at i) × IsBestIn f x (roll_at i)
