use Rattle.std.proofs.Common.{◌≡◌, ◌+◌, ◌^◌, ◌≤◌, ◌++◌, length, drop, sym, ap, ◌∙◌, arith, append_assoc, List, ℕ}
use Rattle.std.proofs.Common.{decimal}
use Rattle.std.proofs.lemmas.Fmt.{length-decimal-le_wide}
use Rattle.query_text.proofs.Decimals.{front_and_18, front_and_36}
use Rattle.query_text.proofs.text.push_number.Goals as goal
use Rattle.query_text.proofs.text.push_number.Goals.{After-digits-first}

-- the digits of the first part and 36 more are no more than the number may have
front : (c : After-digits-first) →
    length (decimal c.digits-first.result.0) ≤ 22
front c =
    let is = c.digits-first.ensures in
    length-decimal-le_wide 22 c.digits-first.result.0 (omega arith) is.first
    (omega (arith, is.value, is.short))

pub push_last_digits-requires : goal.push_last_digits-requires
push_last_digits-requires c =
    omega (
      arith,
      front (goal.at.push_last_digits-requires c).After-digits-first,
      ap length c.format.ensures.text,
      c.push_str.ensures.len,
    )

pub push_last_digits-requires-then-first-gt0 :
    goal.push_last_digits-requires-then-first-gt0
push_last_digits-requires-then-first-gt0 c =
    omega (
      arith,
      front (goal.at.push_last_digits-requires-then-first-gt0 c).After-digits-first,
      ap length c.format.ensures.text,
      c.push_str.ensures.len,
      c.push_last_digits.ensures.len,
    )

pub returns-then-first-gt0-clause-len : goal.returns-then-first-gt0-clause-len
returns-then-first-gt0-clause-len c =
    omega (
      arith,
      front (goal.at.returns-then-first-gt0-clause-len c).After-digits-first,
      ap length c.format.ensures.text,
      c.push_str.ensures.len,
      c.push_last_digits.ensures.len,
      c.push_last_digits-then-first-gt0.ensures.len,
    )

-- what stands before a number, and its parts, added one after the other
three_added : (before a b d : List ℕ) → ((before ++ a) ++ b) ++ d ≡ before ++ ((a ++ b) ++ d)
three_added before a b d = simp append_assoc

pub returns-then-first-gt0-clause-bytes : goal.returns-then-first-gt0-clause-bytes
returns-then-first-gt0-clause-bytes c =
    let before = c.args.text.now.bytes in
    let is = c.digits-first.ensures in
    let first = c.digits-first.result.0 in
    let second = c.digits-first.result.1 in
    let third = c.digits-first.result.2 in
    let middle = drop 1 (decimal (10 ^ 18 + second)) in
    let last = drop 1 (decimal (10 ^ 18 + third)) in
    c.push_last_digits-then-first-gt0.ensures.bytes
    ∙ ap (λ t. t ++ last) (c.push_last_digits.ensures.bytes
    ∙ ap (λ t. t ++ middle) (c.push_str.ensures.bytes
    ∙ ap (λ t. before ++ t) c.format.ensures.text))
    ∙ three_added before (decimal first) middle last
    ∙ ap (λ t. before ++ t) (sym (front_and_36 c.args.number first second third
    is.value c.if-first-gt0.true is.second is.third is.short))

pub returns-then-second-gt0-clause-bytes : goal.returns-then-second-gt0-clause-bytes
returns-then-second-gt0-clause-bytes c =
    let before = c.args.text.now.bytes in
    let is = c.digits-first.ensures in
    let second = c.digits-first.result.1 in
    let third = c.digits-first.result.2 in
    let last = drop 1 (decimal (10 ^ 18 + third)) in
    c.push_last_digits-then-second-gt0.ensures.bytes
    ∙ ap (λ t. t ++ last) (c.push_str-then-second-gt0.ensures.bytes
    ∙ ap (λ t. before ++ t) c.format-then-second-gt0.ensures.text)
    ∙ append_assoc before (decimal second) last
    ∙ ap (λ t. before ++ t) (sym (front_and_18 c.args.number second third
    (omega (arith, is.value)) c.if-second-gt0.true is.third is.short))
