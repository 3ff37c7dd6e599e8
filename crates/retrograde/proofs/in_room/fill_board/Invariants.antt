use Rattle.std.proofs.Common.{◌≡◌, length, take, drop}
use Rattle.race_model.specs.Prelude.{board_header, board_place}
use Rattle.least_plays.specs.Known.{Knows}
use Rattle.db_layout.specs.LowerRecords.{AreRecords, board_mean}
use Rattle.retrograde.specs.BuiltBoards.{IsBuiltTo}
use Rattle.retrograde.proofs.in_room.fill_board.Given as goal

-- the header and the records of the ranks so far
abbrev pub invariant-loop-rank : goal.invariant-loop-rank
invariant-loop-rank g l = record {
  len : length l.room ≡ length l.fn.room;
  headed : take 32 l.room ≡ board_header l.fn.header.bound;
  counted : l.starts.count ≡ l.rank;
  records : AreRecords l.room l.rank l.starts.offsets l.starts.leading;
  built : IsBuiltTo l.room l.rank;
  known : Knows (board_mean l.room) l.least l.rank;
  rest : drop (board_place l.fn.header.count) l.room
      ≡ drop (board_place l.fn.header.count) l.fn.room;
}
