-- Strategies as whole histories, and the numbers of rolls that they need. A strategy may play
-- otherwise after each history, and may look at which die was which. Source: the GNU Backgammon
-- manual for what a one-sided database counts; that a strategy sees the whole history is this
-- project's profile. `sequences 22` is a list of 36 ^ 22 sequences, which no proof and no program
-- may ever compute: what is built on it is `unfoldable`, so that it is opened only where a proof
-- asks for it, and never at the number 22.
use Rattle.std.specs.Prelude.{◌≡◌, ℕ, zero, suc, ◌≤◌, ◌==◌, List, [], ◌∷◌, flat_map, map, sum_by, count_by}
use Rattle.race_model.specs.Positions.{Board, IsFinished}
use Rattle.race_model.specs.Dice.{Throw, throws}
use Rattle.race_model.specs.Plays.{Legal}

-- a finite tree: it stops, or for each of the 36 throws it
-- plays to a position and goes on with a strategy
pub data Strategy : Type 0 where
  stop : Strategy
  turn : (Throw → Board) → (Throw → Strategy) → Strategy

-- the strategy can be played from x: it stops just where
-- the board is empty, and each play is legal
abbrev pub Fits : Strategy → Board → Type 0
Fits stop x = IsFinished x
Fits (turn to next) x = (¬ IsFinished x) × ((v : Throw) → Legal x v (to v) × Fits (next v) (to v))

-- how many rolls the strategy needs where the dice fall as in a sequence
abbrev pub rolls : Strategy → List Throw → ℕ
rolls stop w = 0
rolls (turn to next) [] = 0
rolls (turn to next) (v ∷ w) = suc (rolls (next v) w)

-- all sequences of m throws, of which there are 36 ^ m, and which count equally
unfoldable pub sequences : ℕ → List (List Throw)
sequences zero = [] ∷ []
sequences (suc m) = flat_map (λ v. map (λ w. v ∷ w) (sequences m)) throws

-- the rolls of a strategy, added up over all sequences of m throws
unfoldable pub total_over : ℕ → Strategy → ℕ
total_over m s = sum_by (rolls s) (sequences m)

-- in how many sequences of m throws a strategy needs exactly k rolls
unfoldable pub count_over : ℕ → Strategy → ℕ → ℕ
count_over m s k = count_by (λ w. rolls s w == k) (sequences m)

-- t is the least total of all strategies from x, over all sequences of m throws
pub record IsLeastIn (m : ℕ) (x : Board) (t : ℕ) : Type 0 where
  pub reached : (s : Strategy) × Fits s x × (total_over m s ≡ t)
  pub least : (s : Strategy) → Fits s x → t ≤ total_over m s

-- the rolls over all sequences of 22 throws: the mean number of rolls is this over 36 ^ 22
abbrev pub total : Strategy → ℕ
total = total_over 22

-- in how many sequences of 22 throws a strategy needs exactly k rolls: the chance of that is this
-- over 36 ^ 22
abbrev pub count_of : Strategy → ℕ → ℕ
count_of = count_over 22

-- the least total over all sequences of 22 throws
abbrev pub IsLeast : Board → ℕ → Type 0
IsLeast = IsLeastIn 22

-- a strategy has at most m turns on any path
abbrev pub IsWithin : ℕ → Strategy → Type 0
IsWithin m stop = Unit {0}
IsWithin zero (turn to next) = ⊥
IsWithin (suc m) (turn to next) = (v : Throw) → IsWithin m (next v)

-- each game from x is over within n rolls, however it is played
abbrev pub EndsIn : ℕ → Board → Type 0
EndsIn zero x = IsFinished x
EndsIn (suc n) x = ¬ IsFinished x → (v : Throw) (y : Board) → Legal x v y → EndsIn n y
