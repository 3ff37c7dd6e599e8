-- Lists of counts, by their first counts. What is built on `boards` is
-- `unfoldable`: nothing may compute the box of 16 ^ 6 lists in a proof.
use Rattle.std.specs.Prelude.{ℕ, Bool, ◌&&◌, nat_le, List, ◌++◌, count_by}
use Rattle.race_model.specs.Prelude.{Board, checkers, is_before, boards}

-- these counts are a position, and it is before x
abbrev pub is_position_before : List ℕ → Board → Bool
is_position_before y x = nat_le (checkers y) 15 && is_before y x

-- how many lists that begin with some counts, and have n more of 0 to 15, are positions before x
unfoldable pub positions_before : List ℕ → ℕ → Board → ℕ
positions_before first n x = count_by (λ cs. is_position_before (first ++ cs) x) (boards n)
