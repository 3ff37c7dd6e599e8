-- The count of one play more, and the sum of all.
use Rattle.std.proofs.Common.{◌≡◌, length-set, refl, ◌∙◌, arith, slice_index}
use Rattle.race_model.specs.Prelude.{count_at}
use Rattle.race_model.proofs.Numbers.Members.{set_next}
use Rattle.db_layout.proofs.Weighted.{weighted-listed}
use Rattle.db_layout.proofs.board_numbers.sum_of_long.Goals as goal

pub loop-index-preserved : goal.loop-index-preserved
loop-index-preserved c =
    let i = c.loop-index.index in
    let kept = c.loop-index.invariant in
    record {
      len = length-set c.loop-index.counts i c.long.result ∙ kept.len;
      are =
          set_next
          (λ j count. count
          ≡ count_at c.args.lower.now.bytes (slice_index c.args.plays.now j) c.args.k)
          c.loop-index.counts i i c.long.result 0 refl
          (omega (arith, kept.len, c.loop-index-test.true)) kept.are
          c.long.ensures;
    }

pub returns : goal.returns
returns c =
    c.sum_of.ensures.sum
    ∙ weighted-listed c.loop-index.counts
    (λ i. count_at c.args.lower.now.bytes (slice_index c.args.plays.now i) c.args.k)
    (λ i lt. c.loop-index.invariant.are i (omega (arith, lt, c.loop-index-test.false)))
