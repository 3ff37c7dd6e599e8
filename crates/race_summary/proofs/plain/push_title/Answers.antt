-- Words were added twice.
use Rattle.race_summary.proofs.Printed.{adds_then}
use Rattle.race_summary.proofs.plain.push_title.Goals as goal

pub returns-clause-values : goal.returns-clause-values
returns-clause-values c = adds_then c.push_words.ensures.values c.push_words-2.ensures.values
