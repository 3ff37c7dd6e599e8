-- The two orders of the dice change places; a double is the same both ways round.
use Rattle.race_model.specs.Prelude.{reversed}
use Rattle.race_model.proofs.Dice.Throws.{legal_reversed, played_by_index, best_by_index}
use Rattle.race_model.proofs.laws.plays.law_reversed.Goals as goal

pub returns : goal.returns
returns c = record {
  legal = λ x v y. (legal_reversed x v y, legal_reversed x (reversed v) y);
  played = played_by_index;
  best = best_by_index;
}
