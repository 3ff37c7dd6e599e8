use Rattle.std.proofs.Common.{◌≤◌, ap, arith}
use Rattle.race_model.specs.Prelude.{pips, subject, of_over_bound, of_finished, of_no_result}
use Rattle.query_text.specs.Readings.{asked}
use Rattle.query_text.proofs.refusals.refusal.Goals as goal

pub returns-then-pips-bound : goal.returns-then-pips-bound
returns-then-pips-bound c = λ line is few.
    of_over_bound _ is few (omega (
      arith,
      c.if-pips-bound.true,
      c.pips.ensures.value,
      ap pips c.subject.ensures,
    ))

pub returns-then-asks_of_finished : goal.returns-then-asks_of_finished
returns-then-asks_of_finished c = λ line is few.
    let within : pips (subject (asked c.args.query.now)) ≤ c.args.bound = omega (
      arith,
      c.if-pips-bound.false,
      c.pips.ensures.value,
      ap pips c.subject.ensures,
    ) in
    of_finished _ is few within (c.asks_of_finished.ensures.0 c.if-asks_of_finished.true)

pub returns-then-not-has_result : goal.returns-then-not-has_result
returns-then-not-has_result c = λ line is few.
    let within : pips (subject (asked c.args.query.now)) ≤ c.args.bound = omega (
      arith,
      c.if-pips-bound.false,
      c.pips.ensures.value,
      ap pips c.subject.ensures,
    ) in
    of_no_result _ is few within
    (λ h. let asks = c.asks_of_finished.ensures.1 h in cc)
    (λ h. let has = c.has_result.ensures.1 h in cc)
