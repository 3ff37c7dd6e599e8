-- Each clause is a lemma on the positions of ranks.
use Rattle.race_model.proofs.Ranks.RankOrder.{at_rank_position}
use Rattle.race_model.proofs.Ranks.PositionTotals.{rank-at_rank, at_rank_under, at_rank-past}
use Rattle.race_model.proofs.laws.ranks.law_at_rank.Goals as goal

pub returns : goal.returns
returns c = record {
  position = at_rank_position;
  reached = rank-at_rank;
  under = at_rank_under;
  beyond = at_rank-past;
}
