use Rattle.std.proofs.Common.{sym, ap, ◌∙◌}
use Rattle.race_model.specs.Prelude.{at_rank}
use Rattle.race_model.proofs.Ranks.RankOrder.{at_rank-rank}
use Rattle.bearoff_c.proofs.questions.PointsQuestion.answer.Goals as goal

pub returns-clause-value : goal.returns-clause-value
returns-clause-value c = λ x at ranked.
    c.of.ensures ∙ c.position_at.ensures.value ∙ ap at_rank (sym ranked) ∙ at_rank-rank x at
