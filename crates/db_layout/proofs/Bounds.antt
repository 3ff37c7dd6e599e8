-- The bound of a header.
use Rattle.std.proofs.Common.{◌≤◌, le_trans}
use Rattle.race_model.specs.Prelude.{version_by}
use Rattle.race_model.proofs.RightFiles.Right.{greatest_bound-most}
use Rattle.db_layout.specs.declared.header.Header.{Header}

-- no header has a bound over 58 pips
pub bound-most : (header : Header) → header.bound ≤ 58
bound-most header = le_trans header.bounded (greatest_bound-most (version_by header.version))
