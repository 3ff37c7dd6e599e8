use Rattle.std.specs.Io.KnownBytes.{Appends}
use Rattle.db_reader.specs.Telling.{WhereTold}
use Rattle.db_reader.specs.TableStays.{TableStays}
use Rattle.certificate.proofs.Upgrades.{upgraded_to}
use Rattle.certificate.proofs.upgrading.write_upgrade.Given as goal

-- the records of lower rank are written, and no read failed
abbrev pub invariant-loop-rank : goal.invariant-loop-rank
invariant-loop-rank g l = record {
  stays : TableStays g.T.Table l.fn.table l.table ⊥;
  written : WhereTold (g.T.Table.tells l.fn.table)
      (λ file. Appends (g.W.Write.contents l.fn.writer) (g.W.Write.contents l.writer)
      (upgraded_to file l.rank));
}
