use Rattle.std.proofs.Common.{◌+◌, arith}
use Rattle.race_model.proofs.Ranks.RankOrder.{first_of-rises}
use Rattle.db_layout.proofs.RecordPlaces.{first_of-next}
use Rattle.db_layout.proofs.stated.Kind.end_of.Goals as goal

pub offset_of-requires-clause-from : goal.offset_of-requires-clause-from
offset_of-requires-clause-from c =
    omega (
      arith,
      c.count_to.ensures,
      first_of-next c.args.bound,
      first_of-rises c.args.bound (c.args.bound + 1) (omega arith),
    )

pub offset_of-requires-clause-beyond : goal.offset_of-requires-clause-beyond
offset_of-requires-clause-beyond c = omega (arith, c.count_to.ensures, first_of-next c.args.bound)
