-- The positions of one pip count by a book.
use Rattle.std.specs.Prelude.{◌≡◌, ℕ}
use Rattle.race_model.specs.Prelude.{level_count, IsLevelIn, Book}
use Rattle.epc_query.specs.declared.levels.BookLevel.{BookLevel}

-- the level is that of the positions of exactly p pips
pub record HasLevelIn (b : Book) (p : ℕ) (level : BookLevel) : Type 0 where
  pub pips : level.pips ≡ p
  pub positions : level.positions ≡ level_count p
  pub means : IsLevelIn b p level.least level.greatest
