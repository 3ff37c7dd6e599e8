-- The bytes of a number stand where they are written, and what is before them stays.
use Rattle.std.proofs.Common.{◌+◌, ◌-◌, ap, ◌∙◌, arith}
use Rattle.std.specs.Int.{w128, from_le_bytes}
use Rattle.db_layout.proofs.ByteParts.{bytes_at-put, from_le_bytes-to_le_bytes_16}
use borrow.Rule.Slice.PartMut.{take_put}
use Rattle.retrograde.proofs.kept_shares.put_low.Goals as goal

pub returns-clause-put : goal.returns-clause-put
returns-clause-put c =
    ap (from_le_bytes w128)
    (bytes_at-put c.args.place 16 c.args.room.now c.copy_from_slice.new.self (omega arith)
    (omega (arith, c.copy_from_slice.ensures.len))
    ∙ c.copy_from_slice.ensures.after
    ∙ c.low_bytes.ensures)
    ∙ from_le_bytes-to_le_bytes_16 c.args.number c.ranges.number.fits

pub returns-clause-front : goal.returns-clause-front
returns-clause-front c =
    take_put c.args.place (c.args.place + 16 - c.args.place) c.args.room.now
    c.copy_from_slice.new.self (omega arith)
