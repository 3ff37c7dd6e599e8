-- A book: what a database says by ranks, apart from its bytes, with the number of throws of the
-- sequences over which its numbers are counted. It is right where its means are the least over all
-- strategies, its plays reach them, and its shares are those of its plays. All that is said of a
-- file is said of its book. Source: the GNU Backgammon manual for what a one-sided database is; the
-- rest is this project's profile.
use Rattle.std.specs.Prelude.{◌≡◌, ℕ, zero, suc, ◌^◌, ◌≤◌, ◌==◌, if◌then◌else◌}
use Rattle.race_model.specs.Positions.{Board, IsPosition, checkers, pips}
use Rattle.race_model.specs.Dice.{Throw, roll_index}
use Rattle.race_model.specs.Plays.{Legal}
use Rattle.race_model.specs.Ranks.{rank, at_rank}
use Rattle.race_model.specs.Strategies.{Strategy, stop, turn, Fits, IsLeastIn, total_over, count_over}

-- a mean for each rank, a rank for each roll, and a share for each number of rolls; they are
-- counted over all sequences of `further` throws and one more
pub record Book : Type 0 where
  pub further : ℕ
  pub bound : ℕ
  pub means : ℕ → ℕ
  pub plays : ℕ → ℕ → ℕ
  pub shares : ℕ → ℕ → ℕ

-- the mean that a book says of a position
abbrev pub mean_in : Book → Board → ℕ
mean_in f x = f.means (rank x)

-- the rank of the position to which a book says that a throw leads
abbrev pub play_in : Book → Board → Throw → ℕ
play_in f x v = f.plays (rank x) (roll_index v)

-- the position to which a book says that a throw leads
abbrev pub recorded_in : Book → Board → Throw → Board
recorded_in f x v = at_rank (play_in f x v)

-- the share of exactly k rolls that a book says of a position
abbrev pub share_in : Book → Board → ℕ → ℕ
share_in f x k = f.shares (rank x) k

-- what it says for a throw is the rank of a position, and the throw leads there
pub record IsPlayedIn (f : Book) (x : Board) (v : Throw) : Type 0 where
  pub ranked : rank (recorded_in f x v) ≡ play_in f x v
  pub legal : Legal x v (recorded_in f x v)

-- over how many sequences the numbers of a book are counted
abbrev pub whole_in : Book → ℕ
whole_in f = 36 ^ suc f.further

-- the strategy that plays what a book says, for at most n turns
unfoldable pub follow_in : Book → ℕ → Board → Strategy
follow_in f zero x = stop
follow_in f (suc n) x =
    if checkers x == 0 then stop
    else turn (recorded_in f x) (λ v. follow_in f n (recorded_in f x v))

-- all that a book says of a position is so
pub record IsRightIn (f : Book) (x : Board) : Type 0 where
  pub played : (v : Throw) → IsPlayedIn f x v
  pub fits : Fits (follow_in f (suc f.further) x) x
  pub mean_is : total_over (suc f.further) (follow_in f (suc f.further) x) ≡ mean_in f x
  pub least : IsLeastIn (suc f.further) x (mean_in f x)
  pub spread_is : (k : ℕ) → k ≤ suc f.further →
      share_in f x k ≡ count_over (suc f.further) (follow_in f (suc f.further) x) k

-- a right book: all that it says of each position of at most its bound is so
abbrev pub IsRightBook : Book → Type 0
IsRightBook f = (x : Board) → IsPosition x → pips x ≤ f.bound → IsRightIn f x
