use Rattle.std.proofs.Common.{ap, arith}
use Rattle.race_model.specs.Prelude.{Version, record_place}
use Rattle.race_model.proofs.RightFiles.Places.{record_place-full}
use Rattle.db_layout.proofs.header.Header.find_full.Goals as goal

pub returns-clause-offset : goal.returns-clause-offset
returns-clause-offset c =
    omega (
      arith,
      c.from.ensures,
      record_place-full c.args.rank,
      ap (λ (v : Version). record_place v c.args.rank) c.requires.full,
    )

pub returns-clause-inside : goal.returns-clause-inside
returns-clause-inside c =
    omega (
      arith,
      c.from.ensures,
      c.requires.rank,
      record_place-full c.args.self.now.count,
      ap (λ (v : Version). record_place v c.args.self.now.count) c.requires.full,
    )
