-- The other player's number was added, where there is one.
use Rattle.race_summary.proofs.Printed.{adds_same, adds_nothing, adds_then}
use Rattle.race_summary.proofs.plain.push_other.Goals as goal

pub returns-in-Some-clause-values : goal.returns-in-Some-clause-values
returns-in-Some-clause-values c = rw c.in-Some.is (adds_then c.indent.ensures.values
    (adds_same c.value_of.ensures c.push_value.ensures.values))

pub returns-in_default-clause-values : goal.returns-in_default-clause-values
returns-in_default-clause-values c = rw c.in_default.is (adds_nothing _)
