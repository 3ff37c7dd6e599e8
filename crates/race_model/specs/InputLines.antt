-- The lines of an input. A line ends at a line feed, and a carriage return just before it is
-- dropped; what stands after
-- the last line feed is a last line, from which nothing is dropped. Source: this project's
-- profile.
use Rattle.std.specs.Prelude.{◌≡◌, ◌≢◌, ℕ, ◌-◌, ◌==◌, if◌then◌else◌, List, [], ◌∷◌, ◌++◌, length}
use Rattle.std.specs.Prelude.{take, map, flat_map, slice_index, All}

-- a byte before the first of some pieces
abbrev pub before_first_piece : ℕ → List (List ℕ) → List (List ℕ)
before_first_piece c [] = []
before_first_piece c (piece ∷ more) = (c ∷ piece) ∷ more

-- the pieces of an input that a line feed ends, each without it
abbrev pub pieces : List ℕ → List (List ℕ)
pieces [] = []
pieces (c ∷ bytes) = if c == 10 then [] ∷ pieces bytes else before_first_piece c (pieces bytes)

-- a byte before the rest, where no piece is left before it
abbrev pub before_rest : ℕ → List (List ℕ) → List ℕ → List ℕ
before_rest c [] rest = c ∷ rest
before_rest c (piece ∷ more) rest = rest

-- what stands after the last line feed
abbrev pub rest_of : List ℕ → List ℕ
rest_of [] = []
rest_of (c ∷ bytes) = if c == 10 then rest_of bytes else before_rest c (pieces bytes)
    (rest_of bytes)

-- a piece without the carriage return at its end, if it has one
abbrev pub without_return : List ℕ → List ℕ
without_return piece =
    if slice_index piece (length piece - 1) == 13 then take (length piece - 1) piece else piece

-- the lines that a line feed ends
abbrev pub whole_lines : List ℕ → List (List ℕ)
whole_lines input = map without_return (pieces input)

-- what stands after the last line feed, as a line, unless that is nothing
abbrev pub last_line : List ℕ → List (List ℕ)
last_line [] = []
last_line (c ∷ rest) = (c ∷ rest) ∷ []

-- all lines of an input
abbrev pub lines_of : List ℕ → List (List ℕ)
lines_of input = whole_lines input ++ last_line (rest_of input)

-- no byte is a line feed
abbrev pub HasNoFeed : List ℕ → Type 0
HasNoFeed bytes = All (λ c. c ≢ 10) bytes

-- the input is these pieces, each with a line feed after it, and then this rest, and has no other
-- line feed
pub record IsCut (input : List ℕ) (parts : List (List ℕ)) (rest : List ℕ) : Type 0 where
  pub joined : input ≡ flat_map (λ part. part ++ 10 ∷ []) parts ++ rest
  pub each : All HasNoFeed parts
  pub last : HasNoFeed rest
