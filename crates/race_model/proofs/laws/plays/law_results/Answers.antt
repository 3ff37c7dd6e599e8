-- By the runs of the throw, a die at a time.
use Rattle.std.proofs.Common.{subst, sym}
use Rattle.race_model.specs.Prelude.{Legal}
use Rattle.race_model.proofs.Plays.Results.{legal_somewhere, legal_position, legal_pips}
use Rattle.race_model.proofs.Plays.Results.{legal_fewer_pips, legal_finished, legal_stays}
use Rattle.race_model.proofs.Plays.Results.{only_finished}
use Rattle.race_model.proofs.laws.plays.law_results.Goals as goal

pub returns : goal.returns
returns c = record {
  some = legal_somewhere;
  position = legal_position;
  pips = legal_pips;
  fewer_pips = legal_fewer_pips;
  at_end =
      λ x v y none. (
        legal_finished x v y none,
        λ same. subst (λ z. Legal x v z) (sym same) (legal_stays x v none),
      );
  end = only_finished;
}
