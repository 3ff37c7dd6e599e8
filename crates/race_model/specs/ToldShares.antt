-- The shares that a record tells. A full one stores them all; a compact one stores those of 1 roll
-- to the most rolls of its pip count, and the others are known without being stored. Source: this
-- project's profile.
use Rattle.std.specs.Prelude.{ℕ}
use Rattle.race_model.specs.LocalEquations.{whole}
use Rattle.race_model.specs.Horizon.{told_by}
use Rattle.race_model.specs.Versions.{Version, full, compact}

-- the share of exactly k rolls of a position of p pips, as it is told by what is stored
abbrev pub told_share : Version → ℕ → (ℕ → ℕ) → ℕ → ℕ
told_share full p stored = stored
told_share compact p stored = told_by whole p stored
