-- The first 32 bytes, field by field.
use Rattle.race_model.proofs.FirstFaults.HeaderFacts.{file_of_header, header_of_file, header_fault_refuses, small_bytes}
use Rattle.race_model.proofs.FirstFaults.HeaderFacts.{board_of_header, header_of_board}
use Rattle.race_model.proofs.laws.faults.law_header.Goals as goal

pub returns : goal.returns
returns c = record {
  file = λ f small. file_of_header f (small_bytes f 0 32 small);
  header = header_of_file;
  refused = header_fault_refuses;
  board = board_of_header;
  board_header = header_of_board;
}
