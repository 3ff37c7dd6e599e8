-- The number of a label and one of each player were added.
use Rattle.race_summary.proofs.Printed.{adds_same, adds_then, adds_end}
use Rattle.race_summary.proofs.plain.push_row.Goals as goal

pub returns-clause-values : goal.returns-clause-values
returns-clause-values c = adds_then c.push_label.ensures.values
    (adds_then c.indent.ensures.values
    (adds_then (adds_same c.value_of.ensures
    c.push_value.ensures.values)
    (adds_end c.push_other.ensures.values c.push_words.ensures.values)))
