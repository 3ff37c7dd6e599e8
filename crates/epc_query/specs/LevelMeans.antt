-- The means of the positions of one pip count.
use Rattle.std.specs.Prelude.{◌≡◌, ℕ, ◌<◌, ◌≤◌, List}
use Rattle.race_model.specs.Prelude.{IsMean, level_count, IsLevel}
use Rattle.certificate.specs.declared.query_fault.QueryFault.{QueryFault}
use Rattle.certificate.specs.declared.query_fault.QueryFault.TheVariants.{OverBound, Finished, NotLegal, Memory, Read}
use Rattle.query_text.specs.declared.reply.Level.{Level}

-- the least and the greatest of the means of the ranks from one on and before another, where
-- there are any
pub record AreMeansOf (mean : ℕ → ℕ) (first end least greatest : ℕ) : Type 0 where
  pub least_reached : first < end → (r : ℕ) × (first ≤ r) × (r < end) × (mean r ≡ least)
  pub none_under : (r : ℕ) → first ≤ r → r < end → least ≤ mean r
  pub greatest_reached : first < end → (r : ℕ) × (first ≤ r) × (r < end) × (mean r ≡ greatest)
  pub none_over : (r : ℕ) → first ≤ r → r < end → mean r ≤ greatest

-- the level is that of the positions of exactly p pips
pub record HasLevel (f : List ℕ) (p : ℕ) (level : Level) : Type 0 where
  pub pips : level.pips ≡ p
  pub positions : level.positions ≡ level_count p
  pub least : ℕ
  pub greatest : ℕ
  pub means : IsLevel f p least greatest
  pub least_is : IsMean least level.least.numerator level.least.denominator
  pub greatest_is : IsMean greatest level.greatest.numerator level.greatest.denominator

-- the pip count is over the bound, or a record of a level that the database has could not be read
abbrev pub IsLevelFault : ℕ → ℕ → QueryFault → Type 0
IsLevelFault bound p OverBound = bound < p
IsLevelFault bound p Finished = ⊥
IsLevelFault bound p NotLegal = ⊥
IsLevelFault bound p Memory = ⊥
IsLevelFault bound p Read = p ≤ bound
