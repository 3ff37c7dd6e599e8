use Rattle.race_model.specs.Prelude.{mean_at, first_of, count_to}
use Rattle.epc_query.specs.LevelMeans.{AreMeansOf}
use Rattle.epc_query.proofs.pages.levels.audit_level.Goals as goal

pub returns-clause-level : goal.returns-clause-level
returns-clause-level g c = λ file t.
    let means = (c.in_ok-means.ensures {u = tt}).means file t in
    let here : AreMeansOf (mean_at file) (first_of c.args.pips) (count_to c.args.pips)
    c.in_ok-means.means.least c.in_ok-means.means.greatest =
    rw (← c.first_of.ensures, ← c.count_to.ensures) means in
    c.level_of.ensures file here
