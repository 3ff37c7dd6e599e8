-- Only the label of a share has a number.
use Rattle.race_summary.proofs.Printed.{adds_end}
use Rattle.race_summary.proofs.plain.push_label.Goals as goal

pub returns-after-rolls-eq1-clause-values : goal.returns-after-rolls-eq1-clause-values
returns-after-rolls-eq1-clause-values c = rw c.in-Share.is
    (adds_end c.push_field.ensures.values c.push_words-in-Share.ensures.values)
