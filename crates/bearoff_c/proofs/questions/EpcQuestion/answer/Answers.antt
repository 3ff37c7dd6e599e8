use Rattle.epc_query.specs.Kinds.{book_by}
use Rattle.bearoff_c.proofs.ByRank.{right_at}
use Rattle.bearoff_c.proofs.questions.EpcQuestion.answer.Goals as goal

pub returns-clause-value : goal.returns-clause-value
returns-clause-value c = λ x at ranked.
    let b = book_by c.args.opened.now in
    let told = c.in_ok-epc.ensures {u = tt} in
    let near = c.of.ensures in
    record {
      least = (right_at b c.args.rank c.bound-bound.ensures.right c.requires x at ranked).least;
      pips = rw (near.numerator, near.denominator, ranked) told.exact;
      rounded = rw (near.numerator, near.denominator, near.thousandths) told.rounded;
    }
