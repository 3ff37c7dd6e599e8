-- What a call leaves of a table.
use Rattle.std.specs.Prelude.{◌≡◌}
use Rattle.db_reader.specs.Telling.{WhereTold, RoseWhere}
use Rattle.db_reader.specs.declared.table.Table.{Ghosts}

-- the table tells the same bytes and has accepted the same header, and a read failed exactly where
-- this holds
pub record TableStays {T : Type 0} (g : Ghosts T) (old new : T) (Failed : Type 0) : Type 0 where
  pub told : g.tells new ≡ g.tells old
  pub accepted : g.accepted new ≡ g.accepted old
  pub cause : WhereTold (g.tells old)
      (λ _. RoseWhere Failed (g.failures old) (g.failures new))
