-- The questions are the equations, one for each, and each is answered yes or no.
use Rattle.race_model.specs.Prelude.{book_of, whole, Holds}
use Rattle.race_model.proofs.FirstFaults.Questions.{answers_in, local_of_answers, fault_refuses, one_fault}
use Rattle.race_model.proofs.FirstFaults.Decisions.{local_or_fault}
use Rattle.race_model.proofs.laws.faults.law_first_fault.Goals as goal

pub returns : goal.returns
returns c = record {
  answers = λ f local. answers_in whole (book_of f) local.at_each;
  local = local_of_answers;
  refused = fault_refuses;
  either = local_or_fault;
  one = λ f. one_fault (book_of f) (Holds f);
}
