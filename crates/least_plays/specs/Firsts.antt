-- The best of some ranks, the least mean and, of equal means, the lowest rank; and the best of what
-- is kept of the steps of each die. Source: this project's profile.
use Rattle.std.specs.Prelude.{◌≡◌, ◌⊎◌, ℕ, ◌-◌, ◌<◌, List, [], length, slice_index, slice_index_or, ◌≤◌}
use Rattle.race_model.specs.Prelude.{Board, Die, number, StepFrom, Step, rank}
use Rattle.least_plays.specs.Known.{kept_in}
use Rattle.least_plays.specs.declared.room.Row.{Row}

-- r has a smaller mean than s, or the same and no higher rank
pub record IsNoWorse (mean : ℕ → ℕ) (r s : ℕ) : Type 0 where
  pub least : mean r ≤ mean s
  pub lowest : mean s ≡ mean r → r ≤ s

-- r is one of two ranks, and no worse than either
pub record IsBetterOf (mean : ℕ → ℕ) (s t r : ℕ) : Type 0 where
  pub either : (r ≡ s) ⊎ (r ≡ t)
  pub one : IsNoWorse mean r s
  pub other : IsNoWorse mean r t

-- the highest point, or one below a limit
abbrev pub IsSeen : ℕ → ℕ → ℕ → Type 0
IsSeen top limit t = (t ≡ top) ⊎ (t < limit)

-- r is what is kept of a step of the die from one of these points, and no worse than that of any
pub record IsFirst (mean kept : ℕ → ℕ) (x : Board) (d : Die) (top limit r : ℕ) : Type 0 where
  pub one : (t : ℕ) × (z : Board) × (StepFrom x (number d) t z) × (kept (rank z) ≡ r)
  pub best : (t : ℕ) (z : Board) → IsSeen top limit t → StepFrom x (number d) t z →
      IsNoWorse mean r (kept (rank z))

-- a number of a table of nine numbers for each die
abbrev pub at_die : List (List ℕ) → Die → ℕ → ℕ
at_die best d j = slice_index (slice_index_or best (number d - 1) []) j

-- so it is with each die, for all that may follow it
pub record AreFirsts (mean : ℕ → ℕ) (x : Board) (rows : List Row) (top limit : ℕ)
    (best : List (List ℕ)) : Type 0 where
  pub long : length best ≡ 6
  pub each : (d : Die) (j : ℕ) → j < 9 →
      IsFirst mean (λ q. slice_index (kept_in rows q d) j) x d top limit (at_die best d j)

-- r is what is kept of a step of the die, and no worse than that of any
pub record IsBestFirst (mean kept : ℕ → ℕ) (x : Board) (d : Die) (r : ℕ) : Type 0 where
  pub one : (z : Board) × (Step x d z) × (kept (rank z) ≡ r)
  pub best : (z : Board) → Step x d z → IsNoWorse mean r (kept (rank z))

-- so it is with each die, for all that may follow it
pub record AreBest (mean : ℕ → ℕ) (x : Board) (rows : List Row) (best : List (List ℕ)) : Type 0
  where
    pub long : length best ≡ 6
    pub each : (d : Die) (j : ℕ) → j < 9 →
        IsBestFirst mean (λ q. slice_index (kept_in rows q d) j) x d (at_die best d j)
