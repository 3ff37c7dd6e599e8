-- Both numbers were added.
use Rattle.race_summary.proofs.Printed.{adds_then, adds_end}
use Rattle.race_summary.proofs.json.push_number.Goals as goal

pub returns-clause-values : goal.returns-clause-values
returns-clause-values c = adds_end (adds_then c.push_field.ensures.values
    c.push_field-2.ensures.values) c.push_words.ensures.values
