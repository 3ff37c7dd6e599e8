-- What is known of a database or a board file that was opened.
use Rattle.std.specs.Prelude.{◌≡◌, ℕ, List}
use Rattle.race_model.specs.Prelude.{pips, Version, version_number, record_length, version_of, bound_of, bytes_at}
use Rattle.race_model.specs.Prelude.{record_place, told_record, at_rank, count_to, IsRightDatabase, IsRightBoard}
use Rattle.db_layout.specs.declared.board_header.BoardHeader.{BoardHeader}

-- the full record of a rank in bytes of a version
abbrev pub record_in : Version → List ℕ → ℕ → List ℕ
record_in version bytes r =
    let p = pips (at_rank r) in
    told_record version p (bytes_at bytes (record_place version r) (record_length version p))

-- the bytes are a right file, of this version and bound
pub record IsOpened (f : List ℕ) (version bound : ℕ) : Type 0 where
  pub right : IsRightDatabase f
  pub version_is : version ≡ version_number (version_of f)
  pub bound_is : bound ≡ bound_of f

-- the bytes are a right board file with this header
pub record IsOpenedBoard (f : List ℕ) (header : BoardHeader) : Type 0 where
  pub right : IsRightBoard f
  pub bound_is : header.bound ≡ bound_of f
  pub count_is : header.count ≡ count_to (bound_of f)
