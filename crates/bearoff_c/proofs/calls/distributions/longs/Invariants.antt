use Rattle.std.proofs.Common.{◌≡◌, length, map, take}
use Rattle.bearoff_c.specs.Longs.{long_number_of}
use Rattle.bearoff_c.proofs.calls.distributions.longs.Given as goal

-- the shares so far
abbrev pub invariant-loop-k : goal.invariant-loop-k
invariant-loop-k l = record {
  size : length l.longs ≡ 34;
  told : map long_number_of (take l.k l.longs) ≡ take l.k l.shares;
}
