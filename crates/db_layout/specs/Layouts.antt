-- The layout of a file of a kind, by the number of its version.
use Rattle.std.specs.Prelude.{ℕ, List}
use Rattle.std.specs.Int.{w16, from_be_bytes}
use Rattle.race_model.specs.Prelude.{version_by, record_length, Layout, layout_of, bytes_at, board_layout, board_length}
use Rattle.db_layout.specs.declared.stated.Kind.{Kind}
use Rattle.db_layout.specs.declared.stated.Kind.TheVariants.{Database, Board}

-- the layout of a version of a kind
abbrev pub layout_in : Kind → ℕ → Layout
layout_in Database number = layout_of (version_by number)
layout_in Board number = board_layout

-- the bytes of the record of a position of p pips in the layout of a version of a kind
abbrev pub length_in : Kind → ℕ → ℕ → ℕ
length_in Database number = record_length (version_by number)
length_in Board number = board_length

-- the number of the version that a header states
abbrev pub number_of : List ℕ → ℕ
number_of front = from_be_bytes w16 (bytes_at front 8 2)
