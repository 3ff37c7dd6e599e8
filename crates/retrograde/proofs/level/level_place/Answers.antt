use Rattle.std.proofs.Common.{arith}
use Rattle.race_model.specs.Prelude.{first_of, count_to, version_by}
use Rattle.db_layout.proofs.RecordPlaces.{first_of-next}
use Rattle.retrograde.proofs.Kept.{places-rise}
use Rattle.retrograde.proofs.Levels.{level-end}
use Rattle.retrograde.proofs.level.level_place.Goals as goal

pub offset_of-requires-clause-beyond : goal.offset_of-requires-clause-beyond
offset_of-requires-clause-beyond c =
    omega (
      arith,
      c.first_of.ensures,
      level-end c.args.pips,
      first_of-next c.args.pips,
    )

pub offset_of-requires-2-clause-from : goal.offset_of-requires-2-clause-from
offset_of-requires-2-clause-from c = omega (arith, c.count_to.ensures, level-end c.args.pips)

pub offset_of-requires-2-clause-beyond : goal.offset_of-requires-2-clause-beyond
offset_of-requires-2-clause-beyond c =
    omega (arith, c.count_to.ensures, first_of-next c.args.pips)

pub returns-clause-rise : goal.returns-clause-rise
returns-clause-rise c =
    places-rise (version_by c.args.header.now.version) (first_of c.args.pips)
    (count_to c.args.pips) (level-end c.args.pips)
