use Rattle.std.proofs.Common.{◌≡◌, ◌*◌, ◌^◌, ◌≤◌}
use Rattle.race_summary.specs.Sides.{squares}
use Rattle.race_summary.proofs.sides.deviation.Given as goal

-- the squares so far were summed
abbrev pub invariant-loop-k : goal.invariant-loop-k
invariant-loop-k l = record {
  sum : l.sum ≡ squares l.mean l.shares l.k;
  few : l.sum ≤ l.k * 2 ^ 93;
}
