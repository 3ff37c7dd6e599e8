-- No play is added where there is no roll.
use Rattle.race_summary.proofs.Printed.{adds_nothing}
use Rattle.race_summary.proofs.writing.push_choice.Goals as goal

pub returns-in_default-clause-values : goal.returns-in_default-clause-values
returns-in_default-clause-values c = rw c.in_default.is (adds_nothing _)
