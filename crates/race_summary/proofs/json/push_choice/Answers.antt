-- The numbers of a play were added.
use Rattle.race_summary.proofs.Printed.{adds_then, adds_end}
use Rattle.race_summary.proofs.json.push_choice.Goals as goal

pub returns-clause-values : goal.returns-clause-values
returns-clause-values c = adds_then c.push_words.ensures.values
    (adds_then c.push_field.ensures.values
    (adds_then c.push_field-2.ensures.values
    (adds_then c.push_words-2.ensures.values
    (adds_end c.push_number.ensures.values c.push_words-3.ensures.values))))
