use Rattle.std.proofs.Common.{arith}
use Rattle.notation.proofs.Keys.{bit_and_more, bit_and_few, field_more}
use Rattle.notation.proofs.letters.+field.Goals as goal

pub overflow_mul-result : goal.overflow_mul-result
overflow_mul-result t c =
    omega (
      arith,
      bit_and_few c.args.count c.bit.result c.field.result c.if-count-eq0.false
          (omega (arith, c.requires.few))
          c.bit.ensures.range c.field.ensures.range,
    )

pub overflow_add-result : goal.overflow_add-result
overflow_add-result t c =
    omega (
      arith,
      bit_and_few c.args.count c.bit.result c.field.result c.if-count-eq0.false
          (omega (arith, c.requires.few))
          c.bit.ensures.range c.field.ensures.range,
    )

pub returns-clause-value : goal.returns-clause-value
returns-clause-value t c =
    rw (c.bit.ensures.value, c.field.ensures.value)
    (field_more c.args.letters.now c.args.first c.args.count c.if-count-eq0.false)

pub returns-clause-range : goal.returns-clause-range
returns-clause-range t c =
    bit_and_more c.args.count c.bit.result c.field.result c.if-count-eq0.false c.bit.ensures.range
    c.field.ensures.range
