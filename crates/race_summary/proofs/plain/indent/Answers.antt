-- Each space is a word.
use Rattle.std.proofs.Common.{arith}
use Rattle.race_summary.proofs.Printed.{adds_nothing, adds_then}
use Rattle.race_summary.proofs.plain.indent.Goals as goal

pub loop-space-init : goal.loop-space-init
loop-space-init c = record { values = adds_nothing _; len = omega arith }

pub loop-space-preserved : goal.loop-space-preserved
loop-space-preserved c = record {
  values = adds_then c.loop-space.invariant.values c.push_words.ensures.values;
  len = omega (arith, c.loop-space.invariant.len, c.push_words.ensures.len);
}
