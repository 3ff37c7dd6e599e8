-- The order of positions, and the rank of a position. `boards` is
-- a box of 16 ^ 6 lists, which no proof may ever compute: what is built on it is `unfoldable`, so
-- that it is opened only where a proof asks for it. A plain program goes through them one after
-- another.
use Rattle.std.specs.Prelude.{ℕ, zero, suc, Bool, true, false, ◌&&◌, ◌||◌, ◌==◌, nat_lt, nat_le}
use Rattle.std.specs.Prelude.{List, [], ◌∷◌, flat_map, map, count_by, find, unwrap_or}
use Rattle.race_model.specs.Positions.{Board, checkers, pips, finished}

-- the first difference decides: the list that has the smaller number there comes first
abbrev pub comes_first : List ℕ → List ℕ → Bool
comes_first [] ds = false
comes_first (c ∷ cs) [] = false
comes_first (c ∷ cs) (d ∷ ds) = nat_lt c d || ((c == d) && comes_first cs ds)

-- y is before x: fewer pips, or as many and the smaller list
abbrev pub is_before : Board → Board → Bool
is_before y x = nat_lt (pips y) (pips x) || ((pips y == pips x) && comes_first y x)

-- n numbers, from a on
unfoldable pub numbers_from : ℕ → ℕ → List ℕ
numbers_from a zero = []
numbers_from a (suc n) = a ∷ numbers_from (suc a) n

-- all lists of n counts of 0 to 15
unfoldable pub boards : ℕ → List (List ℕ)
boards zero = [] ∷ []
boards (suc n) = flat_map (λ c. map (λ cs. c ∷ cs) (boards n)) (numbers_from 0 16)

-- how many positions pass a test
unfoldable pub count_positions : (Board → Bool) → ℕ
count_positions p = count_by (λ y. nat_le (checkers y) 15 && p y) (boards 6)

-- the rank of a position: how many positions are before it
unfoldable pub rank : Board → ℕ
rank x = count_positions (λ y. is_before y x)

-- how many positions have at most this many pips
unfoldable pub count_to : ℕ → ℕ
count_to p = count_positions (λ y. nat_le (pips y) p)

-- how many positions have fewer pips
unfoldable pub first_of : ℕ → ℕ
first_of p = count_positions (λ y. nat_lt (pips y) p)

-- how many positions there are
unfoldable pub position_count : ℕ
position_count = count_positions (λ _. true)

-- the position of a rank, and the finished position where no position has that rank
unfoldable pub at_rank : ℕ → Board
at_rank r = unwrap_or (find (λ y. nat_le (checkers y) 15 && (rank y == r)) (boards 6)) finished
