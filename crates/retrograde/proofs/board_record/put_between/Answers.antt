-- One count more.
use Rattle.std.proofs.Common.{◌+◌, subst, arith, slice_index}
use Rattle.race_model.specs.Prelude.{roll_index, weighted, count_place, count_at}
use Rattle.db_layout.proofs.SameFronts.{keeps_twice}
use Rattle.retrograde.specs.NextBoardRecord.{AreCountsBy}
use Rattle.retrograde.proofs.BoardCounts.{written-next, value-next}
use Rattle.retrograde.proofs.board_record.put_between.Goals as goal

pub loop-k-preserved : goal.loop-k-preserved
loop-k-preserved c =
    let k = c.loop-k.k in
    let inside = c.loop-k-test.true in
    let old = c.loop-k.bytes in
    let new = c.put_count.new.bytes in
    let f = c.args.lower.now.bytes in
    let plays = c.args.plays.now in
    let fewer = c.loop-k.invariant.counts in
    record {
      before =
          keeps_twice 66 (count_place (k + 1)) c.args.bytes.now old new (omega arith)
          c.loop-k.invariant.before c.put_count.ensures.before;
      counts = record {
        written = λ j many le.
            written-next old new k c.count_of.result.upper c.count_of.result.lower
            c.put_count.ensures.before c.put_count.ensures.count
            (λ i much few. fewer.written i much (omega (arith, few, inside)))
            c.count_of.ensures.lower j many (omega (arith, le));
        value = λ j under.
            value-next old new k c.count_of.result.upper c.count_of.result.lower
            c.put_count.ensures.before c.put_count.ensures.count
            (λ i. weighted (λ v. count_at f (slice_index plays (roll_index v)) i))
            (λ i few. fewer.value i (omega (arith, few, inside)))
            c.count_of.ensures.value j (omega (arith, under));
      };
    }

pub returns-clause-counts : goal.returns-clause-counts
returns-clause-counts c =
    subst (λ n. AreCountsBy c.args.lower.now.bytes n c.args.plays.now c.loop-k.bytes)
    (omega (arith, c.loop-k-test.false)) c.loop-k.invariant.counts
