use Rattle.std.proofs.Common.{◌≡◌, ℕ, ◌<◌, drop, slice_index}
use Rattle.race_model.specs.Prelude.{board_play_of}
use Rattle.db_layout.specs.BoardRecords.{KeepsBefore}
use Rattle.db_layout.proofs.board_writing.put_plays.Given as goal

-- the plays so far
abbrev pub invariant-loop-roll : goal.invariant-loop-roll
invariant-loop-roll l = record {
  before : KeepsBefore 24 l.initial.bytes l.bytes;
  after : drop 66 l.bytes ≡ drop 66 l.initial.bytes;
  plays : (i : ℕ) → i < l.roll → board_play_of l.bytes i ≡ slice_index l.plays i;
}
