-- By the loop over the numbers of rolls.
use Rattle.std.proofs.Common.{arith, rules}
use Rattle.fixed_fraction.proofs.sums.add_common.Goals as goal

pub sum_of_shares-requires : goal.sum_of_shares-requires
sum_of_shares-requires g c = (
  search rules,
  (
    c.requires.indices,
    (
      omega (arith, c.loop-k-test.true, c.requires.few),
      (
        c.requires.stored c.loop-k.k c.if-k-from.true c.loop-k-test.true,
        (
          omega (arith, c.requires.room c.loop-k.k c.if-k-from.true c.loop-k-test.true),
          c.law_spreads.ensures.wholes,
        ),
      ),
    ),
  ),
)
