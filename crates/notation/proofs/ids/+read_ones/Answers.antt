use Rattle.std.proofs.Common.{arith}
use Rattle.notation.proofs.Keys.{half}
use Rattle.notation.proofs.ids.+read_ones.Goals as goal

pub read_ones-count-requires : goal.read_ones-count-requires
read_ones-count-requires t c =
    let less = half c.args.bits c.args.width c.requires c.if-bits-eq0.false in
    (omega (arith, less.0), less.1)
