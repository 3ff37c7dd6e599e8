use Rattle.std.proofs.Common.{◌+◌, ◌<◌, subst, arith}
use Rattle.ranking.proofs.Counting.{IsCounted, counted_more}
use Rattle.ranking.proofs.rank_table.RankTable.count_at.Goals as goal

-- one checker more fits
more : (c : goal.In-loop-count) →
    IsCounted c.args.point c.args.checkers c.args.pips c.args.later (c.loop-count.count + 1)
more c =
    counted_more _ _ _ _ _ c.requires.last c.requires.few c.loop-count.invariant
    (subst (λ n. c.args.later < n) c.used.ensures c.loop-count-test.true)

pub loop-count-smaller : goal.loop-count-smaller
loop-count-smaller c = let room = (more c).fits in omega (arith, room)

pub loop-count-preserved : goal.loop-count-preserved
loop-count-preserved c = more c
