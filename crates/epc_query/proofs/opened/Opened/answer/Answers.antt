use Rattle.std.proofs.Common.{[], ◌∷◌, ◌++◌}
use Rattle.epc_query.proofs.opened.Opened.answer.Goals as goal

pub returns-clause-reply : goal.returns-clause-reply
returns-clause-reply c =
    c.long_bound-bound.ensures.replies c.args.line.now (c.answer.new.text.bytes ++ 10 ∷ [])
    c.answer.ensures.reply
