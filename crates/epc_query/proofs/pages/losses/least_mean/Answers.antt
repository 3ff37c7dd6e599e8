use Rattle.std.proofs.Common.{◌≤◌, ap, ◌∙◌, arith}
use Rattle.std.proofs.lemmas.Result.{IfOk-weaker}
use Rattle.race_model.specs.Prelude.{pips, bound_of, mean}
use Rattle.epc_query.proofs.RecordedMeans.{mean_after}
use Rattle.epc_query.proofs.pages.losses.least_mean.Goals as goal

pub recorded_mean-requires : goal.recorded_mean-requires
recorded_mean-requires g c =
    let fewer = c.law_results.ensures.pips _ _ _ (c.in-Ok.ensures {u = tt}).legal in
    rw c.play.ensures.stays.bound (omega (arith, fewer, c.requires.within))

pub returns-in-Ok-clause-recorded : goal.returns-in-Ok-clause-recorded
returns-in-Ok-clause-recorded g c = λ file t.
    let right = c.bound-bound.ensures.right file t in
    let within : pips c.args.position.now ≤ bound_of file = omega (
      arith,
      c.requires.within,
      right.1,
    ) in
    let told = (c.in-Ok.ensures {u = tt}).recorded file t in
    IfOk-weaker c.recorded_mean.result _ _
    (λ m h. h ∙ ap (mean file) told
    ∙ mean_after file c.args.position.now c.args.roll right.0 c.requires.position within)
    (c.recorded_mean.ensures.recorded file (c.play.ensures.stays.told ∙ t))
