use Rattle.std.proofs.Common.{◌+◌, ◌-◌, ap, ◌∙◌, arith}
use Rattle.std.proofs.lemmas.Slice.{drop-put_mid}
use Rattle.std.specs.Int.{w128, from_be_bytes}
use Rattle.db_layout.proofs.ByteParts.{bytes_at-put}
use Rattle.db_layout.proofs.Bytes.{from_be_bytes-to_be_bytes_16}
use Rattle.db_layout.proofs.board_writing.put_wide.Goals as goal

pub returns-clause-number : goal.returns-clause-number
returns-clause-number c =
    ap (from_be_bytes w128)
    (bytes_at-put c.args.place 16 c.args.bytes.now c.copy_from_slice.new.self (omega arith)
    (omega (arith, c.copy_from_slice.ensures.len))
    ∙ c.copy_from_slice.ensures.after
    ∙ c.to_be_bytes.ensures)
    ∙ from_be_bytes-to_be_bytes_16 c.args.number c.ranges.number.fits

pub returns-clause-after : goal.returns-clause-after
returns-clause-after c =
    drop-put_mid c.args.place (c.args.place + 16 - c.args.place) c.args.bytes.now
    c.copy_from_slice.new.self (c.args.place + 16) (omega arith) (omega arith)
    (omega (arith, c.copy_from_slice.ensures.len))
