-- Each clause is a lemma on counts of positions.
use Rattle.std.proofs.Common.{add-one}
use Rattle.race_model.proofs.Ranks.RankOrder.{count_to-rises, first_of-zero, first_of-suc}
use Rattle.race_model.proofs.Ranks.PositionTotals.{position_count-all, count_to-eight, count_to-44}
use Rattle.race_model.proofs.Ranks.PositionTotals.{count_to-58, count_to-most, count_to-all}
use Rattle.race_model.proofs.laws.ranks.law_counts.Goals as goal

pub returns : goal.returns
returns c = record {
  all = position_count-all;
  to_8 = count_to-eight;
  to_44 = count_to-44;
  to_58 = count_to-58;
  most = count_to-most;
  complete = count_to-all;
  rising = count_to-rises;
  none = first_of-zero;
  next = λ m. rw add-one (first_of-suc m);
}
