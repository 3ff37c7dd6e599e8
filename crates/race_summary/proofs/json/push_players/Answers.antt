-- Both players' numbers were added.
use Rattle.race_summary.proofs.Printed.{adds_then}
use Rattle.race_summary.proofs.json.push_players.Goals as goal

pub returns-clause-values : goal.returns-clause-values
returns-clause-values c = adds_then c.push_words.ensures.values
    (adds_then c.push_side.ensures.values c.push_other.ensures.values)
