use Rattle.std.proofs.Common.{◌≡◌, ◌+◌, ◌*◌, ◌/◌, ◌%◌, ◌^◌, ap, arith}
use Rattle.fixed_fraction.specs.Board.{part, WeightedSum}
use Rattle.fixed_fraction.proofs.roll_sum.LongSum.mean.Goals as goal

pub returns-clause-some : goal.returns-clause-some
returns-clause-some c =
    let u = c.self.inside.upper in
    let l = c.self.inside.lower in
    let lower = u % 36 * 36 ^ 10 + l / 36 in
    let upper = 36 ^ 22 + u / 36 + c.from.result in
    let carry : c.from.result ≡ lower / part = c.from.ensures in
    let same : u * part + l ≡ c.args.self.now.sum =
    ap (λ (s : WeightedSum). s.sum) c.self.view_is in
    let test = c.if-self-ne0.false in (
      λ is. let fits = c.new.ensures.some.0 is in (
        upper * part + lower % part,
        omega (arith, fits.1),
        omega (arith, same, test, carry),
      ),
      λ any. c.new.ensures.some.1
          (omega arith, omega (arith, any.1, any.2, same, test, carry)),
    )
