use Rattle.std.proofs.Common.{◌≡◌, ℕ, ◌<◌, List, [], length, slice_index, slice_index_or}
use Rattle.db_reader.specs.TableStays.{TableStays}
use Rattle.certificate.proofs.record_check.load_plays.Given as goal

-- the records so far are ready
abbrev pub invariant-loop-index : goal.invariant-loop-index
invariant-loop-index g l = record {
  stays : TableStays g.T.Table l.fn.table l.table ⊥;
  others : (bytes : List ℕ) (other : ℕ) → g.T.Table.ready l.fn.table bytes other
      → g.T.Table.ready l.table bytes other;
  len : length l.rooms ≡ 21;
  ready : (j : ℕ) → j < l.index
      → g.T.Table.ready l.table (slice_index_or l.rooms j []) (slice_index l.plays j);
}
