use Rattle.std.proofs.Common.{◌-◌, ◌≤◌, length, take}
use Rattle.std.specs.Io.KnownBytes.{Appends}
use Rattle.db_layout.proofs.writing.write_bytes.Given as goal

-- the bytes so far were written
abbrev pub invariant-loop-written : goal.invariant-loop-written
invariant-loop-written g l = record {
  within : l.written ≤ length l.bytes;
  written : Appends (g.W.Write.contents l.initial.writer) (g.W.Write.contents l.writer)
      (take l.written l.bytes);
}

-- the bytes that are left
abbrev pub decreases-loop-written : goal.decreases-loop-written
decreases-loop-written g l = length l.bytes - l.written
