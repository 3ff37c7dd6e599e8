use Rattle.std.proofs.Common.{sym, ap, ◌∙◌}
use Rattle.epc_query.specs.Kinds.{book_by}
use Rattle.bearoff_c.proofs.ByRank.{right_at}
use Rattle.bearoff_c.proofs.questions.MeanQuestion.answer.Goals as goal

pub returns-clause-value : goal.returns-clause-value
returns-clause-value c = λ x at ranked.
    let b = book_by c.args.opened.now in
    record {
      least = (right_at b c.args.rank c.bound-bound.ensures.right c.requires x at ranked).least;
      recorded = c.of.ensures ∙ (c.in_ok-mean.ensures {u = tt}).recorded ∙ ap b.means (sym ranked);
    }
