use Rattle.std.proofs.Common.{ℕ, List, sym, ap, slice_index, ◌∙◌}
use Rattle.epc_query.specs.Kinds.{book_by}
use Rattle.bearoff_c.proofs.ByRank.{right_at}
use Rattle.bearoff_c.proofs.questions.SharesQuestion.answer.Goals as goal

pub returns-clause-value : goal.returns-clause-value
returns-clause-value c = λ x at ranked.
    let b = book_by c.args.opened.now in
    let told = c.in_ok-shares.ensures {u = tt} in
    let is = right_at b c.args.rank c.bound-bound.ensures.right c.requires x at ranked in
    record {
      shares = λ k few.
          ap (λ (ss : List ℕ). slice_index ss k) c.longs.ensures ∙ told.recorded k few
          ∙ ap (λ r. b.shares r k) (sym ranked) ∙ is.spread_is k few;
      recorded = λ k few.
          ap (λ (ss : List ℕ). slice_index ss k) c.longs.ensures ∙ told.recorded k few
          ∙ ap (λ r. b.shares r k) (sym ranked);
      beyond = λ k over.
          ap (λ (ss : List ℕ). slice_index ss k) c.longs.ensures ∙ told.beyond k over;
    }
