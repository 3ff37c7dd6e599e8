-- The bytes of a record lie within those of the file.
use Rattle.std.proofs.Common.{◌≡◌, ◌-◌, ◌<◌, slice_index, ap, ap₂, ◌∙◌, arith}
use Rattle.race_model.specs.Prelude.{pips, at_rank, bytes_at, board_length, board_place, board_record}
use Rattle.db_layout.proofs.BoardPlaces.{board_place-next}
use Rattle.db_layout.specs.LowerRecords.{Lower}
use Rattle.db_layout.proofs.KnownRecords.{record-inside}
use Rattle.db_layout.proofs.lower_records.LowerRecords.record.Goals.{After-end_of}
use Rattle.db_layout.proofs.lower_records.LowerRecords.record.Goals as goal

-- where it begins, and how long it is
module _ (c : After-end_of) where
  below : c.args.rank < c.self.inside.count
  below = omega (arith, c.requires, ap (λ (l : Lower). l.count) c.self.view_is)

  begins : slice_index c.self.inside.offsets.now c.from.result ≡ board_place c.args.rank
  begins =
      c.self.invariant.begin c.from.result (omega (arith, below, c.from.ensures))
      ∙ ap board_place c.from.ensures

  length_is : c.end_of.result - slice_index c.self.inside.offsets.now c.from.result
      ≡ board_length (pips (at_rank c.args.rank))
  length_is = omega (arith, begins, c.end_of.ensures, board_place-next c.args.rank)

pub overflow_sub-end_of : goal.overflow_sub-end_of
overflow_sub-end_of c =
    let here = (goal.at.overflow_sub-end_of c).After-end_of in
    omega (arith, begins here, c.end_of.ensures, board_place-next c.args.rank)

pub part_of-requires : goal.part_of-requires
part_of-requires c =
    let here = (goal.at.part_of-requires c).After-end_of in
    omega (
      arith,
      begins here,
      length_is here,
      record-inside c.self.inside.bytes.now c.self.inside.count c.self.inside.offsets.now
          c.self.inside.leading.now c.self.invariant c.args.rank (below here),
    )

pub returns-clause-bytes : goal.returns-clause-bytes
returns-clause-bytes c =
    let here = (goal.at.returns-clause-bytes c).After-end_of in
    c.part_of.ensures.bytes
    ∙ ap₂ (bytes_at c.self.inside.bytes.now) (begins here) (length_is here)
    ∙ ap (λ (l : Lower). board_record l.bytes c.args.rank) c.self.view_is

pub returns-clause-len : goal.returns-clause-len
returns-clause-len c =
    c.part_of.ensures.len ∙ length_is (goal.at.returns-clause-len c).After-end_of
