-- What clauses see of an accepted database, and what a call leaves of it.
use Rattle.std.specs.Prelude.{◌≡◌, ℕ, List, Option}
use Rattle.race_model.specs.Prelude.{Version}
use Rattle.db_reader.specs.Telling.{WhereTold, RoseWhere}

-- its bytes, where they are told; the bound and the version of its header; how often a read failed
pub record Database : Type 0 where
  pub told : Option (List ℕ)
  pub bound : ℕ
  pub version : Version
  pub failures : ℕ

-- a call left the database as it was, and a read failed exactly where this holds
pub record Stays (old new : Database) (Failed : Type 0) : Type 0 where
  pub told : new.told ≡ old.told
  pub bound : new.bound ≡ old.bound
  pub version : new.version ≡ old.version
  pub cause : WhereTold old.told (λ _. RoseWhere Failed old.failures new.failures)
