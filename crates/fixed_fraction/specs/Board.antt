-- Numbers of the whole home board. Source: 36 throws count equally (the rules of backgammon); that
-- games take at most 33 rolls, and what is stored in two parts, is this project's profile.
use Rattle.std.specs.Prelude.{ℕ, ◌^◌}

-- the denominator of every mean of the whole board
abbrev pub board_whole : ℕ
board_whole = 36 ^ 33

-- how many of a lower part are one of the upper part
abbrev pub part : ℕ
part = 36 ^ 11

-- a sum of numbers, each counted with a weight, and the weights
pub record WeightedSum : Type 0 where
  pub weight : ℕ
  pub sum : ℕ
