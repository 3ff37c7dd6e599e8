use Rattle.std.proofs.Common.{refl, ap, subst, ◌++◌, ◌∷◌, []}
use Rattle.race_model.specs.Prelude.{IsRefused, answered, refused}
use Rattle.query_text.specs.Readings.{asked}
use Rattle.query_text.specs.Texts.{why}
use Rattle.query_text.proofs.AcceptedQueries.{accepted_by, answered_query}
use Rattle.epc_query.proofs.answers.answer_any.Goals as goal

pub answer_query-requires : goal.answer_query-requires
answer_query-requires c =
    answered_query (accepted_by c.args.line.now (asked c.in-Ok.query) c.long_bound.ensures.bound
    (c.in-Ok.ensures {u = tt}).accepted)

pub returns-in-Ok-clause-reply : goal.returns-in-Ok-clause-reply
returns-in-Ok-clause-reply c =
    answered (asked c.in-Ok.query) c.answer_query.new.text.bytes
    (accepted_by c.args.line.now (asked c.in-Ok.query) c.long_bound.ensures.bound
    (c.in-Ok.ensures {u = tt}).accepted)
    c.answer_query.ensures.answer refl

pub returns-in-Err-clause-reply : goal.returns-in-Err-clause-reply
returns-in-Err-clause-reply c =
    refused (why c.in-Err.refusal)
    (subst (λ n. IsRefused n c.args.line.now (why c.in-Err.refusal)) c.long_bound.ensures.bound
    (c.in-Err.ensures {u = tt}).refused)
    (ap (λ t. t ++ 10 ∷ []) c.put_refusal.ensures.text)
