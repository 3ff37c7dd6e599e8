use Rattle.std.proofs.Common.{ℕ, ◌<◌}
use Rattle.certificate.proofs.equations.check_between.Given as goal

-- the numbers so far hold
abbrev pub invariant-loop-k : goal.invariant-loop-k
invariant-loop-k g l = (j : ℕ) → j < l.k → j < l.to → g.N.Numbers.IsNumber l.numbers j
