-- Each number of a player was added in turn.
use Rattle.std.proofs.Common.{ap}
use Rattle.race_summary.specs.declared.values.Value.TheVariants.{Whole}
use Rattle.race_summary.proofs.Printed.{adds_same, adds_then, adds_end}
use Rattle.race_summary.proofs.json.push_side.Goals as goal

pub returns-clause-values : goal.returns-clause-values
returns-clause-values c = adds_then c.push_field.ensures.values
    (adds_then (adds_same (ap Whole c.pips.ensures.value) c.push_field-2.ensures.values)
    (adds_then c.push_words.ensures.values
    (adds_then c.push_rounded.ensures.values
    (adds_then c.push_field-3.ensures.values
    (adds_then c.push_words-2.ensures.values
    (adds_then c.push_rounded-2.ensures.values
    (adds_then c.push_field-4.ensures.values
    (adds_then c.push_words-3.ensures.values
    (adds_end c.push_shares.ensures.values c.push_words-4.ensures.values)))))))))
