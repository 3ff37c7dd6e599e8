use Rattle.std.proofs.Common.{arith}
use Rattle.plain_model.proofs.RunLemmas.{sum-drop, sum-place}
use Rattle.plain_model.proofs.plays.checkers_above.Goals as goal

pub overflow_add-checkers : goal.overflow_add-checkers
overflow_add-checkers c =
    omega (
      arith,
      c.count-checkers.ensures.value,
      sum-place c.loop-below.below c.args.position.now,
      sum-drop c.args.point c.args.position.now,
    )

pub loop-below-preserved : goal.loop-below-preserved
loop-below-preserved c =
    omega (arith, c.count-checkers.ensures.value, sum-place c.loop-below.below c.args.position.now)
