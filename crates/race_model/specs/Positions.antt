-- Positions of one player's checkers on the six points of the home board.
-- Source: the bearing-off rules of backgammon.
use Rattle.std.specs.Prelude.{◌≡◌, ℕ, zero, suc, ◌+◌, ◌-◌, ◌*◌, ◌<◌, ◌≤◌, List, [], ◌∷◌, length}
use Rattle.std.specs.Prelude.{replicate, slice_index, slice_set, sum}

-- how many checkers stand on the points 1 to 6, in that order
abbrev pub Board : Type 0
Board = List ℕ

-- how many checkers stand on a point; none where there is no such point
abbrev pub count : Board → ℕ → ℕ
count x zero = 0
count x (suc i) = slice_index x i

-- how many checkers are left
abbrev pub checkers : Board → ℕ
checkers x = sum x

-- the pips of the points from p on
abbrev pub pips_from : ℕ → List ℕ → ℕ
pips_from p [] = 0
pips_from p (c ∷ cs) = p * c + pips_from (suc p) cs

-- the pip count: each checker counts the number of its point
abbrev pub pips : Board → ℕ
pips x = pips_from 1 x

-- six points, and no more checkers than a player has
pub record IsPosition (x : Board) : Type 0 where
  pub six : length x ≡ 6
  pub few : checkers x ≤ 15

-- all checkers are borne off
abbrev pub IsFinished : Board → Type 0
IsFinished x = checkers x ≡ 0

-- the finished position
abbrev pub finished : Board
finished = replicate 6 0

-- p is the highest point with a checker on it
pub record IsHighest (x : Board) (p : ℕ) : Type 0 where
  pub occupied : 0 < count x p
  pub above : (q : ℕ) → p < q → count x q ≡ 0

-- one checker fewer on point p
abbrev pub fewer : Board → ℕ → Board
fewer x zero = x
fewer x (suc i) = slice_set x i (slice_index x i - 1)

-- one checker more on point p
abbrev pub more : Board → ℕ → Board
more x zero = x
more x (suc i) = slice_set x i (slice_index x i + 1)
