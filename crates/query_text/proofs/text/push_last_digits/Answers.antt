use Rattle.std.proofs.Common.{◌+◌, ◌≤◌, length, ap, arith}
use Rattle.std.proofs.lemmas.Fmt.{length-decimal-le_wide}
use Rattle.query_text.proofs.Decimals.{some_digit}
use Rattle.query_text.proofs.text.push_last_digits.Goals as goal
use Rattle.query_text.proofs.text.push_last_digits.Goals.{After-format-digits}

-- a one and 18 digits are at least one byte and at most 19
digits : (c : After-format-digits) →
    (1 ≤ length c.format-digits.result.now) × (length c.format-digits.result.now ≤ 19)
digits c =
    let n = c.args.power + c.args.rest in
    let same = ap length c.format-digits.ensures.text in (
      omega (arith, same, some_digit n (omega arith)),
      omega (arith, same, length-decimal-le_wide 19 n (omega arith) (omega arith) (omega arith)),
    )

pub range_from-requires : goal.range_from-requires
range_from-requires c some = (
  (digits (goal.at.range_from-requires c).After-format-digits).0,
  λ within high. absurd (omega (arith, high, c.format-digits.ensures.ascii 1)),
)

pub push_str-requires : goal.push_str-requires
push_str-requires c =
    let short = digits (goal.at.push_str-requires c).After-format-digits in
    (omega arith, omega (arith, short.0, short.1, c.range_from.ensures.len))

pub returns-clause-len : goal.returns-clause-len
returns-clause-len c =
    let short = digits (goal.at.returns-clause-len c).After-format-digits in
    omega (arith, short.0, short.1, c.range_from.ensures.len, c.push_str.ensures.len)
