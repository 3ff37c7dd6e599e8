-- The mean stands at the front of the record.
use Rattle.std.proofs.Common.{◌≡◌, ◌+◌, ◌*◌, ◌^◌, ◌<◌, ◌≤◌, length, slice_index, ap, ◌∙◌, arith}
use Rattle.race_model.specs.Prelude.{pips, at_rank, board_length, board_place, board_record, mean_parts}
use Rattle.db_layout.specs.LowerRecords.{Lower, board_mean}
use Rattle.db_layout.proofs.KnownRecords.{mean-written, mean-most, mean-upper, mean-lower, record-inside}
use Rattle.db_layout.proofs.lower_records.LowerRecords.mean_at.Goals.{After-self, After-read_long-lower}
use Rattle.db_layout.proofs.lower_records.LowerRecords.mean_at.Goals as goal

-- where the record of the rank stands
module _ (c : After-self) where
  below : c.args.rank < c.self.inside.count
  below = omega (arith, c.requires, ap (λ (l : Lower). l.count) c.self.view_is)

  begins : slice_index c.self.inside.offsets.now c.from.result ≡ board_place c.args.rank
  begins =
      c.self.invariant.begin c.from.result (omega (arith, below, c.from.ensures))
      ∙ ap board_place c.from.ensures

  inside : board_place c.args.rank + board_length (pips (at_rank c.args.rank))
      ≤ length c.self.inside.bytes.now
  inside =
      record-inside c.self.inside.bytes.now c.self.inside.count c.self.inside.offsets.now
      c.self.inside.leading.now c.self.invariant c.args.rank below

  long : 66 ≤ board_length (pips (at_rank c.args.rank))
  long = omega arith

pub read_wide-upper-requires : goal.read_wide-upper-requires
read_wide-upper-requires c =
    let here = (goal.at.read_wide-upper-requires c).After-self in
    omega (arith, begins here, inside here, long here)

pub read_long-lower-requires : goal.read_long-lower-requires
read_long-lower-requires c =
    let here = (goal.at.read_long-lower-requires c).After-self in
    omega (arith, begins here, inside here, long here)

-- what was read is the mean of the record
module _ (c : After-read_long-lower) where
  abbrev here : After-self
  here = (goal.at.of_parts-requires-clause-lower c).After-self

  upper_is : c.read_wide-upper.result
      ≡ (mean_parts (board_record c.self.inside.bytes.now c.args.rank)).upper
  upper_is =
      c.read_wide-upper.ensures
      ∙ mean-upper c.self.inside.bytes.now (slice_index c.self.inside.offsets.now c.from.result)
      c.args.rank (begins here)

  lower_is : c.read_long-lower.result
      ≡ (mean_parts (board_record c.self.inside.bytes.now c.args.rank)).lower
  lower_is =
      c.read_long-lower.ensures
      ∙ mean-lower c.self.inside.bytes.now (slice_index c.self.inside.offsets.now c.from.result)
      c.args.rank (begins here)

  written : c.read_long-lower.result < 36 ^ 11
  written =
      let known = c.self.invariant in
      omega (
        arith,
        lower_is,
        mean-written c.self.inside.bytes.now c.self.inside.count known.few
            known.local c.args.rank (below here),
      )

  small : c.read_wide-upper.result * 36 ^ 11 + c.read_long-lower.result ≤ 33 * 36 ^ 33
  small =
      let known = c.self.invariant in
      omega (
        arith,
        upper_is,
        lower_is,
        mean-most c.self.inside.bytes.now c.self.inside.count known.few known.local
            c.args.rank (below here),
      )

pub of_parts-requires-clause-lower : goal.of_parts-requires-clause-lower
of_parts-requires-clause-lower c = written c

pub of_parts-requires-clause-most : goal.of_parts-requires-clause-most
of_parts-requires-clause-most c = small c

pub returns : goal.returns
returns c =
    let here = (goal.at.returns c).After-read_long-lower in
    omega (arith, c.of_parts.ensures, upper_is here, lower_is here)
    ∙ ap (λ (l : Lower). board_mean l.bytes c.args.rank) c.self.view_is
