-- The dice were added, where there is a roll.
use Rattle.race_summary.proofs.Printed.{adds_nothing, adds_end}
use Rattle.race_summary.proofs.json.push_roll.Goals as goal

pub returns-in-Some-clause-values : goal.returns-in-Some-clause-values
returns-in-Some-clause-values c =
    rw c.in-Some.is (adds_end c.push_field.ensures.values c.push_words.ensures.values)

pub returns-in_default-clause-values : goal.returns-in_default-clause-values
returns-in_default-clause-values c = rw c.in_default.is (adds_nothing _)
