use Rattle.std.proofs.Common.{◌≡◌, sum_by, map, slice_index}
use Rattle.std.specs.List.{range_with_len}
use Rattle.bearoff_c.specs.Longs.{long_number_of}
use Rattle.bearoff_c.proofs.calls.distributions.shares_to.Given as goal

-- the shares so far are added up
abbrev pub invariant-loop-k : goal.invariant-loop-k
invariant-loop-k l = record {
  sum : long_number_of l.total
      ≡ sum_by (slice_index (map long_number_of l.shares)) (range_with_len 0 l.k);
}
