-- Counts of sequences: of the sequences of k throws, how many end the game with the last one. They
-- say what shares say with no common denominator, and their equation has no division. Source: this
-- project's profile.
use Rattle.std.specs.Prelude.{◌≡◌, ℕ, zero, suc, ◌+◌, ◌*◌, ◌^◌, Bool, true, false, List, [], ◌∷◌, count_by}
use Rattle.race_model.specs.Positions.{Board, IsFinished}
use Rattle.race_model.specs.Dice.{Throw, weighted}
use Rattle.race_model.specs.Ranks.{rank}
use Rattle.race_model.specs.Strategies.{Strategy, stop, turn, sequences}
use Rattle.race_model.specs.Books.{Book, play_in}

-- the game of a strategy ends with the last throw of a sequence, neither before it nor after it
abbrev pub is_ended_by : Strategy → List Throw → Bool
is_ended_by stop [] = true
is_ended_by stop (v ∷ w) = false
is_ended_by (turn to next) [] = false
is_ended_by (turn to next) (v ∷ w) = is_ended_by (next v) w

-- of all sequences of k throws, how many end the game of a strategy with the last one
unfoldable pub endings : Strategy → ℕ → ℕ
endings s k = count_by (is_ended_by s) (sequences k)

-- counts, by ranks and by numbers of rolls, that say what the shares of a book say: the sequences
-- of all its throws that begin with one of those counted
abbrev pub IsCounted : Book → (ℕ → ℕ → ℕ) → Type 0
IsCounted f counts =
    (r k further : ℕ) → k + further ≡ suc f.further → f.shares r k ≡ counts r k * 36 ^ further

-- the equation of counts at k rolls: the finished position takes none, in the one sequence of no
-- throw; any other adds up the counts of what is said, at one roll fewer
abbrev pub HasCountIn : Book → (ℕ → ℕ → ℕ) → Board → ℕ → Type 0
HasCountIn f counts x zero =
    (IsFinished x → counts (rank x) 0 ≡ 1) × (¬ IsFinished x → counts (rank x) 0 ≡ 0)
HasCountIn f counts x (suc k) =
    (IsFinished x → counts (rank x) (suc k) ≡ 0)
    × (¬ IsFinished x → counts (rank x) (suc k) ≡ weighted (λ v. counts (play_in f x v) k))
