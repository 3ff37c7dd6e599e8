use Rattle.std.proofs.Common.{w16, arith}
use Rattle.std.proofs.Math.Facts.{Fits-of_lt}
use Rattle.ranking.proofs.Chains.{off_left, left_above, left_below, left_enough}
use Rattle.ranking.proofs.rank_table.RankTable.rank_off.Goals as goal

pub sum_below-requires-clause-room : goal.sum_below-requires-clause-room
sum_below-requires-clause-room c = λ p lower.
    (left_below c.args.left.now.position c.args.source p c.requires.left.position
    c.requires.occupied lower).1

pub sum_below-requires-clause-few : goal.sum_below-requires-clause-few
sum_below-requires-clause-few c =
    omega (
      arith,
      (off_left c.args.left.now c.args.source c.requires.left c.requires.occupied).few,
    )

pub sum_above-requires-clause-room : goal.sum_above-requires-clause-room
sum_above-requires-clause-room c = λ p higher.
    left_above c.args.left.now.position c.args.source p c.requires.left.position
    c.requires.occupied higher

pub sum_above-requires-clause-few : goal.sum_above-requires-clause-few
sum_above-requires-clause-few c =
    omega (
      arith,
      (off_left c.args.left.now c.args.source c.requires.left c.requires.occupied).few,
    )

pub overflow_add-later : goal.overflow_add-later
overflow_add-later c =
    Fits-of_lt {w = w16}
    (omega (
      arith,
      (off_left c.args.left.now c.args.source c.requires.left c.requires.occupied).few,
      c.sum_below.ensures,
      c.sum_above.ensures,
    ))

pub overflow_sub-left : goal.overflow_sub-left
overflow_sub-left c =
    (left_enough c.args.left.now c.args.source c.requires.left c.requires.occupied).0

pub rank_before-requires-clause-low : goal.rank_before-requires-clause-low
rank_before-requires-clause-low c =
    omega (
      arith,
      (left_enough c.args.left.now c.args.source c.requires.left c.requires.occupied).1,
    )

pub rank_before-requires-clause-later : goal.rank_before-requires-clause-later
rank_before-requires-clause-later c =
    omega (
      arith,
      (off_left c.args.left.now c.args.source c.requires.left c.requires.occupied).inside,
      c.sum_below.ensures,
      c.sum_above.ensures,
    )

pub returns : goal.returns
returns c =
    omega (
      arith,
      (off_left c.args.left.now c.args.source c.requires.left c.requires.occupied).value,
      c.sum_below.ensures,
      c.sum_above.ensures,
      c.rank_before.ensures,
    )
