use Rattle.std.proofs.Common.{refl, arith}
use Rattle.fixed_fraction.specs.declared.parts.TheConstants.{POWERS_OF_36}
use Rattle.fixed_fraction.proofs.Fractions.{power_at}
use Rattle.fixed_fraction.proofs.parts.power_of_36.Goals as goal

pub returns : goal.returns
returns c =
    rw c.from.ensures (power_at 36 23 c.args.exponent POWERS_OF_36 refl (omega (arith, c.requires)))
