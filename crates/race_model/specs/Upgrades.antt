-- What an old file becomes: the file of version 2 that holds its numbers. Source: this project's
-- profile.
use Rattle.std.specs.Prelude.{◌≡◌, ℕ, List}
use Rattle.race_model.specs.Versions.{compact}
use Rattle.race_model.specs.Files.{IsBytes, version_of}
use Rattle.race_model.specs.RightFiles.{IsRightDatabase}
use Rattle.race_model.specs.SameNumbers.{HasSameNumbers}

-- the upgrade of a file: a right file of version 2 with the same bound, means, plays and shares.
-- The plays are those of the file, also where a builder would have chosen others. That it is one
-- of bytes leaves one list alone
pub record IsUpgrade (f g : List ℕ) : Type 0 where
  pub bytes : IsBytes g
  pub version_is : version_of g ≡ compact
  pub right : IsRightDatabase g
  pub same : HasSameNumbers f g
