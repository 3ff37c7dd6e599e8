-- What is asked of a header, in order.
use Rattle.std.specs.Prelude.{◌≡◌, ℕ, ◌<◌, ◌≤◌, List, length, replicate, codes}
use Rattle.std.specs.Int.{w16, w32, from_be_bytes}
use Rattle.race_model.specs.Ranks.{count_to}
use Rattle.race_model.specs.Files.{Layout, layout_of, bytes_at, version_of, bound_of}
use Rattle.race_model.specs.BoardFiles.{board_layout}

-- a question about a header
pub data HeaderTest : Type 0 where
  long_enough : HeaderTest
  magic : HeaderTest
  version : HeaderTest
  bound : HeaderTest
  count : HeaderTest
  record_bytes : HeaderTest
  reserved : HeaderTest
  exact_length : HeaderTest

-- its place among the questions
abbrev pub header_place : HeaderTest → ℕ
header_place long_enough = 0
header_place magic = 1
header_place version = 2
header_place bound = 3
header_place count = 4
header_place record_bytes = 5
header_place reserved = 6
header_place exact_length = 7

-- the answer is yes, for the first bytes of a file and the file's length
abbrev pub HeaderHoldsBy : Layout → List ℕ → ℕ → HeaderTest → Type 0
HeaderHoldsBy layout front size long_enough = (32 ≤ length front) × (32 ≤ size)
HeaderHoldsBy layout front size magic = bytes_at front 0 8 ≡ codes "EPCTABLE"
HeaderHoldsBy layout front size version = from_be_bytes w16 (bytes_at front 8 2) ≡ layout.number
HeaderHoldsBy layout front size bound = bound_of front ≤ layout.greatest
HeaderHoldsBy layout front size count =
    from_be_bytes w32 (bytes_at front 12 4) ≡ count_to (bound_of front)
HeaderHoldsBy layout front size record_bytes =
    from_be_bytes w32 (bytes_at front 16 4) ≡ layout.stated
HeaderHoldsBy layout front size reserved = bytes_at front 20 12 ≡ replicate 12 0
HeaderHoldsBy layout front size exact_length = size ≡ layout.place (count_to (bound_of front))

-- the first answer that is no
pub record IsFirstHeaderFaultBy (layout : Layout) (front : List ℕ) (size : ℕ) (t : HeaderTest) :
    Type 0 where
  pub fails : ¬ HeaderHoldsBy layout front size t
  pub earlier : (u : HeaderTest) → header_place u < header_place t →
      HeaderHoldsBy layout front size u

-- of a database, by the version that its header states
abbrev pub HeaderHolds : List ℕ → ℕ → HeaderTest → Type 0
HeaderHolds front = HeaderHoldsBy (layout_of (version_of front)) front

-- all answers are yes
abbrev pub IsHeader : List ℕ → ℕ → Type 0
IsHeader front size = (t : HeaderTest) → HeaderHolds front size t

-- all answers about the header of a board file are yes
abbrev pub IsBoardHeader : List ℕ → Type 0
IsBoardHeader f = (t : HeaderTest) → HeaderHoldsBy board_layout f (length f) t

-- of a database this is the first question whose answer is no
abbrev pub IsFirstHeaderFault : List ℕ → ℕ → HeaderTest → Type 0
IsFirstHeaderFault front = IsFirstHeaderFaultBy (layout_of (version_of front)) front

-- of a board file this is the first question about its header whose answer is no
abbrev pub IsFirstBoardHeaderFault : List ℕ → HeaderTest → Type 0
IsFirstBoardHeaderFault f = IsFirstHeaderFaultBy board_layout f (length f)
