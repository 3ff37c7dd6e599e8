-- Words and a number were added.
use Rattle.race_summary.proofs.Printed.{adds_then}
use Rattle.race_summary.proofs.values.push_field.Goals as goal

pub returns-clause-values : goal.returns-clause-values
returns-clause-values c = adds_then c.push_words.ensures.values c.push_value.ensures.values
