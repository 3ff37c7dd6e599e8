-- As of a database, and each number is written as is allowed or not.
use Rattle.race_model.specs.Prelude.{board_book, HoldsOnBoard}
use Rattle.race_model.proofs.FirstFaults.Questions.{board_answers, board_of_answers, board_fault_refuses, one_fault}
use Rattle.race_model.proofs.FirstFaults.Decisions.{board_or_fault}
use Rattle.race_model.proofs.laws.faults.law_first_board_fault.Goals as goal

pub returns : goal.returns
returns c = record {
  answers = board_answers;
  local = board_of_answers;
  refused = board_fault_refuses;
  either = board_or_fault;
  one = λ f. one_fault (board_book f) (HoldsOnBoard f);
}
