-- What stands after the part that is written stays.
use Rattle.std.proofs.Common.{◌+◌, ◌-◌, arith}
use Rattle.std.proofs.lemmas.Slice.{drop-put_mid}
use Rattle.db_layout.proofs.board_writing.put_short.Goals as goal

pub returns-clause-after : goal.returns-clause-after
returns-clause-after c =
    drop-put_mid c.args.place (c.args.place + 2 - c.args.place) c.args.bytes.now
    c.copy_from_slice.new.self (c.args.place + 2) (omega arith) (omega arith)
    (omega (arith, c.copy_from_slice.ensures.len))
