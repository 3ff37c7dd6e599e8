-- Lists of positions by rising rank.
use Rattle.std.specs.Prelude.{◌≡◌, List, IsTrue, AllPairs}
use Rattle.std.specs.declared.cmp.Ordering.TheVariants.{Less}
use Rattle.race_model.specs.Prelude.{Board, is_before}
use Rattle.home_board.specs.Order.{rank_cmp}

-- each position is before all later ones, so that none stands twice
pub record IsInRankOrder (xs : List Board) : Type 0 where
  pub pairs : AllPairs (λ x y. IsTrue (is_before x y)) xs

-- the same, as the comparison of two positions tells it
pub record IsAscending (xs : List Board) : Type 0 where
  pub pairs : AllPairs (λ x y. rank_cmp x y ≡ Less) xs
