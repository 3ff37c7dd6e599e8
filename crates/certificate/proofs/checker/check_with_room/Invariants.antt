-- What is known before the record of a rank is checked.
use Rattle.std.proofs.Common.{◌<◌}
use Rattle.race_model.specs.Prelude.{Board, IsPosition, rank, IsLocalAt}
use Rattle.db_reader.specs.Telling.{WhereTold}
use Rattle.db_reader.specs.TableStays.{TableStays}
use Rattle.certificate.specs.LowerRecords.{IsLower}
use Rattle.certificate.proofs.checker.check_with_room.Given as goal

-- the records of lower rank are accepted, and no read failed
abbrev pub invariant-loop-rank : goal.invariant-loop-rank
invariant-loop-rank g l = record {
  stays : TableStays g.T.Table l.fn.table l.table ⊥;
  kept : IsLower (g.T.Table.tells l.fn.table) l.lower l.rank;
  lower : WhereTold (g.T.Table.tells l.fn.table)
      (λ file. (z : Board) → IsPosition z → rank z < l.rank → IsLocalAt file z);
}
