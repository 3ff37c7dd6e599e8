-- Where one checker goes, as ranks, and the sums by which these are found. Source: the bearing-off
-- rules of backgammon, and this project's profile.
use Rattle.std.specs.Prelude.{◌≡◌, ℕ, zero, suc, ◌+◌, ◌-◌, ◌*◌, ◌<◌, ◌≤◌, List, []}
use Rattle.std.specs.Prelude.{slice_index, slice_index_or}
use Rattle.race_model.specs.Prelude.{Board, IsPosition, fewer, more, pips, rank}
use Rattle.race_model.specs.Positions.{count}
use Rattle.ranking.specs.Tables.{used}
use Rattle.ranking.specs.declared.left.Left.{Left}

-- the ranks to which one checker goes from point s by 1 pip, 2 pips and so on, to off the board
pub record IsChain (x : Board) (s : ℕ) (chain : List ℕ) : Type 0 where
  pub each : (n : ℕ) → n < s → slice_index chain n ≡ rank (more (fewer x s) (s - (n + 1)))

-- the chains of all occupied points, that of the ace point first
abbrev pub AreChains : Board → List (List ℕ) → Type 0
AreChains x chains = (s : ℕ) → 0 < count x s → IsChain x s (slice_index_or chains (s - 1) [])

-- of 15 checkers those that are on none of the first n points
unfoldable pub checkers_left : Board → ℕ → ℕ
checkers_left x zero = 15
checkers_left x (suc n) = checkers_left x n - count x (suc n)

-- the pips of the points beyond the first n
unfoldable pub pips_left : Board → ℕ → ℕ
pips_left x zero = pips x
pips_left x (suc n) = pips_left x n - suc n * count x (suc n)

-- both, for each number of points
pub record IsLeft (left : Left) : Type 0 where
  pub position : IsPosition left.position
  pub checkers_at : (n : ℕ) → n ≤ 6 → slice_index left.checkers n ≡ checkers_left left.position n
  pub pips_at : (n : ℕ) → n ≤ 6 → slice_index left.pips n ≡ pips_left left.position n

-- the sum of n values of f, from a on
unfoldable pub sum_from : (ℕ → ℕ) → ℕ → ℕ → ℕ
sum_from f a zero = 0
sum_from f a (suc n) = sum_from f a n + f (a + n)

-- how many lists come after that of a checker that went down by so many pips, and have more of them
-- on point p, which is below the one that it went to
abbrev pub below : Board → ℕ → ℕ → ℕ
below x far p = used p (checkers_left x p) (pips_left x p - far)

-- the same where p is below point s, from which it went, and not below the one that it went to
abbrev pub between : Board → ℕ → ℕ → ℕ
between x s p = used p (checkers_left x p - 1) (pips_left x p - s)

-- the same where p is not below the point from which it went, and so many checkers were borne off
abbrev pub above : Board → ℕ → ℕ → ℕ
above x off p = used p (checkers_left x p + off) (pips_left x p)
