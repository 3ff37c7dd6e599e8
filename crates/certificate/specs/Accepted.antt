-- What is kept of a table that was accepted.
use Rattle.std.specs.Prelude.{◌≡◌, ℕ, List, Option, Some, None}
use Rattle.race_model.specs.Prelude.{Version, full, version_by, version_of, bound_of, IsLocalDatabase}
use Rattle.db_layout.specs.declared.header.Header.{Header}
use Rattle.db_reader.specs.Telling.{WhereTold}

-- the version of an accepted header
abbrev pub version_in : Option Header → Version
version_in None = full
version_in (Some header) = version_by header.version

-- the table has accepted this header, and the bytes that it tells
-- meet the local equations and have its bound and its version
pub record HasAccepted (told : Option (List ℕ)) (accepted : Option Header) (header : Header) :
    Type 0 where
  pub header_is : accepted ≡ Some header
  pub local : WhereTold told (IsLocalDatabase)
  pub bound_is : WhereTold told (λ file. header.bound ≡ bound_of file)
  pub version_is : WhereTold told (λ file. version_by header.version ≡ version_of file)
