use Rattle.std.proofs.Common.{◌∙◌}
use Rattle.query_text.specs.Readings.{asked}
use Rattle.query_text.proofs.AcceptedQueries.{accepted_by, answered_query}
use Rattle.epc_query.proofs.pages.answers.answer_line.Goals as goal

pub ask-requires : goal.ask-requires
ask-requires g c =
    answered_query (accepted_by c.args.line.now (asked c.in-Ok.query) c.bound.ensures.bound
    (c.in-Ok.ensures {u = tt}).accepted)

pub returns-in-Ok-ask-clause-heard : goal.returns-in-Ok-ask-clause-heard
returns-in-Ok-ask-clause-heard g c =
    (c.in-Ok-ask.ensures {u = tt}).heard _ c.args.line.now
    (accepted_by c.args.line.now (asked c.in-Ok.query) c.bound.ensures.bound
    (c.in-Ok.ensures {u = tt}).accepted)

pub returns-in-Ok-ask-clause-reply : goal.returns-in-Ok-ask-clause-reply
returns-in-Ok-ask-clause-reply g c = λ file t.
    (c.in-Ok-ask.ensures {u = tt}).told file t c.args.line.now
    (accepted_by c.args.line.now (asked c.in-Ok.query)
    (c.bound.ensures.bound ∙ (c.bound.ensures.right file t).1)
    (c.in-Ok.ensures {u = tt}).accepted)
