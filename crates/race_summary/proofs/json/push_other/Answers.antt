-- The other player's numbers were added, where there is one.
use Rattle.race_summary.proofs.Printed.{adds_nothing, adds_then}
use Rattle.race_summary.proofs.json.push_other.Goals as goal

pub returns-in-Some-clause-values : goal.returns-in-Some-clause-values
returns-in-Some-clause-values c = rw c.in-Some.is (adds_then c.push_words.ensures.values
    (adds_then c.push_side.ensures.values (adds_nothing _)))

pub returns-in_default-clause-values : goal.returns-in_default-clause-values
returns-in_default-clause-values c = rw c.in_default.is (adds_nothing _)
