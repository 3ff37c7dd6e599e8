-- The best is one of the results with the least mean.
use Rattle.std.proofs.Common.{sym, subst, arith}
use Rattle.race_model.specs.Prelude.{roll_at, IsBestPlay}
use Rattle.least_plays.proofs.RecordedPlays.{best-result, least}
use Rattle.least_plays.proofs.recorded.check_play.Goals as goal

pub returns-then-recorded-best-clause-least : goal.returns-then-recorded-best-clause-least
returns-then-recorded-best-clause-least g c =
    let x = c.args.position.now in
    let v = roll_at c.args.index in
    let mean = g.M.RankedMeans.mean c.args.means.now in
    let best = subst (IsBestPlay mean x v) (sym c.if-recorded-best.true) c.requires.best in
    least x c.requires.position v mean c.args.recorded best c.args.recorded
    (best-result x c.requires.position v mean c.args.recorded best) (omega arith)
