-- What the table counts, lists of counts on the points from one on, and what its cells say.
use Rattle.std.specs.Prelude.{◌≡◌, ℕ, ◌+◌, ◌<◌, length, slice_index, slice_index_or, ◌-◌, Bool, false, ◌&&◌, ◌==◌}
use Rattle.std.specs.Prelude.{nat_lt, nat_le, List, [], ◌∷◌, count_by, sum}
use Rattle.race_model.specs.Prelude.{first_of, boards, pips_from}
use Rattle.ranking.specs.declared.row.Row.{Row}
use Rattle.ranking.specs.declared.point_table.PointTable.{PointTable}
use Rattle.ranking.specs.declared.rank_table.RankTable.{RankTable}

-- how many lists of counts, of the points from p to 6, have at most k checkers and m pips
unfoldable pub ways : ℕ → ℕ → ℕ → ℕ
ways p k m = count_by (λ y. nat_le (sum y) k && (pips_from p y == m)) (boards (7 - p))

-- a list has a checker on its first point
abbrev pub is_used : List ℕ → Bool
is_used [] = false
is_used (c ∷ cs) = nat_lt 0 c

-- how many of those have a checker on point p
unfoldable pub used : ℕ → ℕ → ℕ → ℕ
used p k m =
    count_by (λ y. nat_le (sum y) k && ((pips_from p y == m) && is_used y)) (boards (7 - p))

-- a row has the value of f at each pip count
pub record IsRow (f : ℕ → ℕ) (row : Row) : Type 0 where
  pub each : (m : ℕ) → m < 91 → slice_index row.cells m ≡ f m

-- a table has such a row for each number of checkers
pub record IsPointTable (f : ℕ → ℕ → ℕ) (table : PointTable) : Type 0 where
  pub long : length table.rows ≡ 16
  pub each : (k : ℕ) (d : Row) → k < 16 → IsRow (f k) (slice_index_or table.rows k d)

-- for each point how many lists from it on have a checker there, and
-- for each pip count, and one beyond, how many positions have fewer
pub record IsRankTable (table : RankTable) : Type 0 where
  pub counted : (i : ℕ) (d : PointTable) → i < 6 →
      IsPointTable (used (i + 1)) (slice_index_or table.points i d)
  pub summed : (m : ℕ) → m < 92 → slice_index table.starts m ≡ first_of m
