use Rattle.std.proofs.Common.{◌≡◌, ℕ, ◌<◌}
use Rattle.race_model.specs.Positions.{count}
use Rattle.home_board.proofs.position.Position.highest.Given as goal

-- the points above are empty
abbrev pub invariant-loop-point : goal.invariant-loop-point
invariant-loop-point l = (q : ℕ) → l.point < q → count l.counts q ≡ 0
