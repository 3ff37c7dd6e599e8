use Rattle.std.proofs.Common.{arith}
use Rattle.race_model.specs.Prelude.{book_of}
use Rattle.epc_query.proofs.Runs.{one_reply, one_part}
use Rattle.epc_query.proofs.pages.answers.CheckedAnswers.write_answer.Goals as goal

pub returns-in-Ok-write_reply_by-clause-answered :
    goal.returns-in-Ok-write_reply_by-clause-answered
returns-in-Ok-write_reply_by-clause-answered g c = λ file t.
    let told = (c.in-Ok.ensures {u = tt}).reply file t in
    let wrote = (c.in-Ok-write_reply_by.ensures {u = tt}).all in
    let line = c.args.line.now in
    one_reply (book_of file) line _ _ _
    ((c.law_replies.ensures.book file line _).1
    (c.law_reply_text.ensures file line c.in-Ok.reply wrote.0 told wrote.1)) wrote.2

pub returns-in-Ok-clause-answered : goal.returns-in-Ok-clause-answered
returns-in-Ok-clause-answered g c = λ file t.
    let told = (c.in-Ok.ensures {u = tt}).reply file t in
    let wrote = (c.in-Err.ensures {u = tt}).part in
    let line = c.args.line.now in (
      1,
      omega arith,
      one_part (book_of file) line _ _ _
          ((c.law_replies.ensures.book file line _).1
          (c.law_reply_text.ensures file line c.in-Ok.reply wrote.0 told wrote.1)) wrote.2,
    )
