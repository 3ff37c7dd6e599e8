use Rattle.std.proofs.Common.{refl}
use Rattle.home_board.proofs.Counts.{checkers-none}
use Rattle.home_board.proofs.position.Position.highest.Goals as goal

pub returns-clause-none : goal.returns-clause-none
returns-clause-none c = (
  λ _.
      rw (← c.self.view_is)
      (checkers-none _ _ c.self.invariant.six c.loop-point-test.false
      c.loop-point.invariant),
  λ _. refl,
)
