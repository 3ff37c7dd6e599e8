-- No record begins yet.
use Rattle.std.proofs.Common.{arith}
use Rattle.race_model.specs.Prelude.{board_length}
use Rattle.race_model.proofs.RightFiles.Places.{board_place-by, place_by-first}
use Rattle.db_layout.proofs.lower_records.RecordStarts.new.Goals as goal

pub returns-clause-records : goal.returns-clause-records
returns-clause-records g c bytes long = record {
  few = omega arith;
  long = omega (arith, long, board_place-by 0, place_by-first board_length);
  told = omega arith;
  begin = λ r less. absurd (omega (arith, less));
  as_many = omega arith;
  lead = λ r less. absurd (omega (arith, less));
  local = λ z at less. absurd (omega (arith, less));
}
