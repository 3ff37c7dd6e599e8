-- The six rows and those of the shares were added.
use Rattle.race_summary.proofs.Printed.{adds_nothing, adds_then}
use Rattle.race_summary.proofs.plain.push_players.Goals as goal

pub returns-clause-values : goal.returns-clause-values
returns-clause-values c = adds_then (adds_then c.push_title.ensures.values
    (adds_then c.push_row.ensures.values
    (adds_then c.push_row-2.ensures.values
    (adds_then c.push_row-3.ensures.values
    (adds_then c.push_row-4.ensures.values
    (adds_then c.push_row-5.ensures.values
    (adds_then c.push_row-6.ensures.values (adds_nothing _))))))))
    c.push_shares.ensures.values
