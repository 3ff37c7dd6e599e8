use Rattle.std.proofs.Common.{List, ℕ, [], ◌∷◌, ◌++◌, sym, ◌∙◌, subst}
use Rattle.race_model.specs.Prelude.{IsReplyIn}
use Rattle.epc_query.specs.Kinds.{book_by}
use Rattle.bearoff_c.proofs.calls.lines.tell_line.Goals as goal

pub returns-in-Some-clause-reply : goal.returns-in-Some-clause-reply
returns-in-Some-clause-reply c = (
  c.as_bytes.result.now,
  c.put_text.ensures.text,
  subst (λ (text : List ℕ). IsReplyIn (book_by c.args.opened.now) c.args.line.now (text ++ 10 ∷ []))
      (sym (c.as_bytes.ensures.value ∙ c.as_str.ensures.value)) c.answer.ensures.reply,
)
