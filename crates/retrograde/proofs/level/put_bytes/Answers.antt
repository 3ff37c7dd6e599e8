use Rattle.std.proofs.Common.{◌+◌, ◌-◌, length, ap, arith}
use Rattle.std.proofs.lemmas.Slice.{drop-put_mid}
use Rattle.retrograde.proofs.level.put_bytes.Goals as goal

pub returns-clause-rest : goal.returns-clause-rest
returns-clause-rest c =
    let end = c.args.start + length c.args.bytes.now in
    drop-put_mid c.args.start (end - c.args.start) c.args.room.now c.copy_from_slice.new.self end
    (omega arith) (omega (arith, c.requires))
    (omega (arith, ap length c.copy_from_slice.ensures.after))
