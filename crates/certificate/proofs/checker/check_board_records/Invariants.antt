use Rattle.std.proofs.Common.{◌≡◌}
use Rattle.least_plays.specs.Known.{Knows}
use Rattle.db_layout.specs.LowerRecords.{AreRecords, board_mean}
use Rattle.certificate.proofs.checker.check_board_records.Given as goal

-- the records of lower rank are accepted, and it is known where they begin and with which bits
abbrev pub invariant-loop-rank : goal.invariant-loop-rank
invariant-loop-rank l = record {
  counted : l.starts.count ≡ l.rank;
  records : AreRecords l.bytes l.rank l.starts.offsets l.starts.leading;
  known : Knows (board_mean l.bytes) l.plays l.rank;
}
