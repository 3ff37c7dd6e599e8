use Rattle.std.proofs.Common.{refl, arith}
use Rattle.race_model.specs.Prelude.{mean_query, answered}
use Rattle.query_text.proofs.AcceptedQueries.{accepted_mean}
use Rattle.epc_query.specs.Kinds.{long_by}
use Rattle.epc_query.proofs.answers.answer.Goals as goal

pub returns-in-Some-clause-reply : goal.returns-in-Some-clause-reply
returns-in-Some-clause-reply c =
    let reading = c.in-Some.ensures {u = tt} in
    answered (mean_query c.in-Some.position) c.answer_mean.new.text.bytes
    (accepted_mean (long_by c.args.opened.now).bound c.args.line.now c.in-Some.position
    reading.0 reading.1
    (omega (arith, c.if-pips-long_bound.true, c.long_bound.ensures.bound, c.pips.ensures.value)))
    c.answer_mean.ensures.answer refl
