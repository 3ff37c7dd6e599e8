-- The equations hold exactly where the file is right.
use Rattle.std.proofs.Common.{refl}
use Rattle.std.proofs.lemmas.Bool.{false≢true}
use Rattle.certificate.proofs.FileTests.{none-of_local}
use Rattle.certificate.proofs.checked.check_board.Goals as goal

pub returns-in-Ok-check_board_records-clause-right :
    goal.returns-in-Ok-check_board_records-clause-right
returns-in-Ok-check_board_records-clause-right c = (
  λ _.
      c.law_boards.ensures.right c.args.bytes.now
      (c.in-Ok-check_board_records.ensures {u = tt}).local,
  λ _. refl,
)

pub returns-in-Err-check_board_records-clause-right :
    goal.returns-in-Err-check_board_records-clause-right
returns-in-Err-check_board_records-clause-right c = (
  λ no. absurd (false≢true no),
  λ right. absurd (none-of_local c.args.bytes.now c.in-Err-check_board_records.fault
      (c.in-Err-check_board_records.ensures {u = tt}).first
      (c.law_boards.ensures.local c.args.bytes.now right)),
)
