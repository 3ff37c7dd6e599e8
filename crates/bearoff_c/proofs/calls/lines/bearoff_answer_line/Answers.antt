use Rattle.std.proofs.Common.{[], ◌∷◌, ◌++◌, subst}
use Rattle.race_model.specs.Prelude.{Book, IsReplyIn}
use Rattle.bearoff_c.proofs.calls.lines.bearoff_answer_line.Goals as goal

pub returns-in-Ok-clause-reply : goal.returns-in-Ok-clause-reply
returns-in-Ok-clause-reply c = λ is_open.
    let told = c.tell_line.ensures.reply in (
      told.0,
      told.1,
      subst (λ (b : Book). IsReplyIn b c.args.line.now (told.0 ++ 10 ∷ []))
          (c.in-Ok.ensures {u = tt}).book told.2,
    )
