-- What the checker asks of a file, in its order, and the first answer that is no: it asks of the
-- book of the file.
use Rattle.std.specs.Prelude.{◌≡◌, ℕ, suc, ◌+◌, ◌*◌, ◌<◌, ◌≤◌, ◌⊎◌, List}
use Rattle.race_model.specs.Dice.{roll_at}
use Rattle.race_model.specs.Ranks.{at_rank, count_to}
use Rattle.race_model.specs.Books.{Book, IsPlayedIn}
use Rattle.race_model.specs.LocalEquations.{IsBestIn, HasMeanOver, HasShareOver, whole}
use Rattle.race_model.specs.Files.{book_of}

-- a question about the record of a rank: at a roll, of the whole, or at k rolls
pub data Test : Type 0 where
  play_test : ℕ → ℕ → Test
  least_test : ℕ → ℕ → Test
  mean_test : ℕ → Test
  spread_test : ℕ → ℕ → Test

-- the rank that a question is about
abbrev pub rank_of : Test → ℕ
rank_of (play_test rank roll) = rank
rank_of (least_test rank roll) = rank
rank_of (mean_test rank) = rank
rank_of (spread_test rank k) = rank

-- its place among the questions about that rank: for each roll the
-- play and then whether it is least, then the mean, then the shares
abbrev pub place_of : Test → ℕ
place_of (play_test rank roll) = 2 * roll
place_of (least_test rank roll) = 2 * roll + 1
place_of (mean_test rank) = 42
place_of (spread_test rank k) = 43 + k

-- a question that is asked earlier
abbrev pub IsEarlier : Test → Test → Type 0
IsEarlier t u = (rank_of t < rank_of u) ⊎ ((rank_of t ≡ rank_of u) × (place_of t < place_of u))

-- the answer is yes: the equation of a book holds for the position of that rank
abbrev pub HoldsOver : ℕ → Book → Test → Type 0
HoldsOver over b (play_test rank roll) = IsPlayedIn b (at_rank rank) (roll_at roll)
HoldsOver over b (least_test rank roll) = IsBestIn b (at_rank rank) (roll_at roll)
HoldsOver over b (mean_test rank) = HasMeanOver over b (at_rank rank)
HoldsOver over b (spread_test rank k) = HasShareOver over b (at_rank rank) k

-- all questions about a book
abbrev pub AsksIn : Book → Test → Type 0
AsksIn b (play_test rank roll) = (rank < count_to b.bound) × (roll < 21)
AsksIn b (least_test rank roll) = (rank < count_to b.bound) × (roll < 21)
AsksIn b (mean_test rank) = rank < count_to b.bound
AsksIn b (spread_test rank k) = (rank < count_to b.bound) × (k ≤ suc b.further)

-- of the questions that are asked, this is the first whose answer is no
pub record IsFirstFailing (asked holds : Test → Type 0) (t : Test) : Type 0 where
  pub is_asked : asked t
  pub fails : ¬ holds t
  pub earlier : (u : Test) → asked u → IsEarlier u t → holds u

-- of the questions that are asked about the record of a rank, this is the first whose answer is no
pub record IsFirstInRecord (asked holds : Test → Type 0) (rank : ℕ) (t : Test) : Type 0 where
  pub of_rank : rank_of t ≡ rank
  pub is_asked : asked t
  pub fails : ¬ holds t
  pub earlier : (u : Test) → rank_of u ≡ rank → place_of u < place_of t → asked u → holds u

-- the answer to a question about a file is yes
abbrev pub Holds : List ℕ → Test → Type 0
Holds f = HoldsOver whole (book_of f)

-- the questions that are asked about a file
abbrev pub Asks : List ℕ → Test → Type 0
Asks f = AsksIn (book_of f)

-- of the questions that are asked about a file, this is the first whose answer is no
abbrev pub IsFirstFault : (Test → Type 0) → List ℕ → Test → Type 0
IsFirstFault asked f = IsFirstFailing asked (Holds f)
