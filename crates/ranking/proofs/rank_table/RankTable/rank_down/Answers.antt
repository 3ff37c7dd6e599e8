use Rattle.std.proofs.Common.{w16, arith}
use Rattle.std.proofs.Math.Facts.{Fits-of_lt}
use Rattle.ranking.proofs.Chains.{down_left, left_below, left_enough}
use Rattle.ranking.proofs.rank_table.RankTable.rank_down.Goals as goal

pub overflow_sub-left : goal.overflow_sub-left
overflow_sub-left c =
    omega (
      arith,
      (left_enough c.args.left.now c.args.source c.requires.left c.requires.occupied).0,
    )

pub sum_below-requires-clause-room : goal.sum_below-requires-clause-room
sum_below-requires-clause-room c = λ p lower.
    omega (
      arith,
      (left_below c.args.left.now.position c.args.source p c.requires.left.position
          c.requires.occupied (omega (arith, lower, c.requires.down))).1,
    )

pub sum_below-requires-clause-few : goal.sum_below-requires-clause-few
sum_below-requires-clause-few c =
    omega (
      arith,
      (down_left c.args.left.now c.args.source c.args.target c.requires.left c.requires.occupied
          c.requires.first c.requires.down).few,
    )

pub overflow_add-sum_below : goal.overflow_add-sum_below
overflow_add-sum_below c =
    Fits-of_lt {w = w16}
    (omega (
      arith,
      (down_left c.args.left.now c.args.source c.args.target c.requires.left c.requires.occupied
          c.requires.first c.requires.down).few,
      c.sum_below.ensures,
      c.requires.upper,
    ))

pub rank_before-requires-clause-low : goal.rank_before-requires-clause-low
rank_before-requires-clause-low c =
    omega (
      arith,
      (left_enough c.args.left.now c.args.source c.requires.left c.requires.occupied).1,
    )

pub rank_before-requires-clause-later : goal.rank_before-requires-clause-later
rank_before-requires-clause-later c =
    omega (
      arith,
      (down_left c.args.left.now c.args.source c.args.target c.requires.left c.requires.occupied
          c.requires.first c.requires.down).inside,
      c.sum_below.ensures,
      c.requires.upper,
    )

pub returns : goal.returns
returns c =
    omega (
      arith,
      (down_left c.args.left.now c.args.source c.args.target c.requires.left c.requires.occupied
          c.requires.first c.requires.down).value,
      c.sum_below.ensures,
      c.requires.upper,
      c.rank_before.ensures,
    )
