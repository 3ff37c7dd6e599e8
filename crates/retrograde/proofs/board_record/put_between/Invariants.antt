use Rattle.std.proofs.Common.{min}
use Rattle.db_layout.specs.BoardRecords.{KeepsBefore}
use Rattle.retrograde.specs.NextBoardRecord.{AreCountsBy}
use Rattle.retrograde.proofs.board_record.put_between.Given as goal

-- the counts so far
abbrev pub invariant-loop-k : goal.invariant-loop-k
invariant-loop-k l = record {
  before : KeepsBefore 66 l.initial.bytes l.bytes;
  counts : AreCountsBy l.fn.lower.bytes (min l.k l.to) l.fn.plays l.bytes;
}
