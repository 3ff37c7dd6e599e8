use Rattle.std.proofs.Common.{◌≡◌, ℕ, zero, suc, ◌+◌, ◌<◌, refl, sym, slice_index, replicate, w16, arith}
use Rattle.std.proofs.Math.Facts.{Fits-of_lt}
use Rattle.race_model.specs.Prelude.{first_of}
use Rattle.race_model.proofs.Ranks.RankOrder.{first_of-zero}
use Rattle.ranking.proofs.Cells.{filled_more}
use Rattle.ranking.proofs.TableCounts.{first_of-step, first_of-most}
use Rattle.ranking.proofs.rank_table.starts_of.Goals as goal

-- no position has fewer than no pips
first_start : (m : ℕ) → m < 1 → slice_index (replicate 92 0) m ≡ first_of m
first_start zero h = sym first_of-zero
first_start (suc m) h = absurd (omega arith)

pub loop-pips-init : goal.loop-pips-init
loop-pips-init c = record { long = refl; below = first_start }

pub overflow_add-starts : goal.overflow_add-starts
overflow_add-starts c =
    Fits-of_lt {w = w16}
    (omega (
      arith,
      c.loop-pips.invariant.below c.loop-pips.pips (omega arith),
      c.requires.each c.loop-pips.pips c.loop-pips-test.true,
      first_of-step c.loop-pips.pips,
      first_of-most (c.loop-pips.pips + 1),
    ))

pub loop-pips-preserved : goal.loop-pips-preserved
loop-pips-preserved c =
    filled_more first_of 92 (c.loop-pips.pips + 1) _ _ c.loop-pips.invariant (omega arith)
    (omega (
      arith,
      c.loop-pips.invariant.below c.loop-pips.pips (omega arith),
      c.requires.each c.loop-pips.pips c.loop-pips-test.true,
      first_of-step c.loop-pips.pips,
    ))
