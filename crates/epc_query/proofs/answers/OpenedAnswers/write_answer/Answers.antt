use Rattle.std.proofs.Common.{◌≡◌, ◌++◌, [], ◌∷◌, ap, ◌∙◌, subst, arith}
use Rattle.race_model.specs.Prelude.{Book, IsReplyIn}
use Rattle.epc_query.specs.Kinds.{file_book}
use Rattle.epc_query.proofs.Runs.{one_reply, one_part}
use Rattle.epc_query.proofs.answers.OpenedAnswers.write_answer.Goals as goal

pub returns-in-Ok-clause-answered : goal.returns-in-Ok-clause-answered
returns-in-Ok-clause-answered g c = λ file t.
    let same : c.args.self.now.1 ≡ file = cc in
    let line = c.args.line.now in
    let text = c.answer.new.text.bytes ++ 10 ∷ [] in
    one_reply (file_book file) line text _ _
    (subst (λ (b : Book). IsReplyIn b line text)
    (c.long_bound-bound.ensures.file ∙ ap file_book same)
    (c.long_bound-bound.ensures.replies line text c.answer.ensures.reply))
    (c.in-Ok.ensures {u = tt}).all

pub returns-in-Err-clause-answered : goal.returns-in-Err-clause-answered
returns-in-Err-clause-answered g c = λ file t.
    let same : c.args.self.now.1 ≡ file = cc in
    let line = c.args.line.now in
    let text = c.answer.new.text.bytes ++ 10 ∷ [] in (
      1,
      omega arith,
      one_part (file_book file) line text _ _
          (subst (λ (b : Book). IsReplyIn b line text)
          (c.long_bound-bound.ensures.file ∙ ap file_book same)
          (c.long_bound-bound.ensures.replies line text c.answer.ensures.reply))
          (c.in-Err.ensures {u = tt}).part,
    )
