use Rattle.std.proofs.Common.{◌≡◌, sum, take}
use Rattle.fixed_fraction.proofs.spread.Spread.new.Given as goal

-- the sum of the shares so far
abbrev pub invariant-loop-share : goal.invariant-loop-share
invariant-loop-share l = record {
  total : l.total ≡ sum (take l.share-index l.shares);
}
