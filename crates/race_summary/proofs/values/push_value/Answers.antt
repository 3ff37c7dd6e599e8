-- Each number is added as its text.
use Rattle.std.proofs.Common.{◌∙◌, [], ◌++◌, ap, ap₂, sym, refl, append-nil, append_assoc, decimal, arith}
use Rattle.race_model.specs.Prelude.{number}
use Rattle.legal_plays.specs.MoveLists.{moves_of}
use Rattle.race_summary.proofs.Printed.{adds_value}
use Rattle.race_summary.proofs.values.push_value.Goals as goal

pub returns-in-Whole-clause-values : goal.returns-in-Whole-clause-values
returns-in-Whole-clause-values c =
    adds_value _ c.in-Whole.is c.push_str.ensures.bytes c.format.ensures.text

pub returns-in-Thousandths-clause-values : goal.returns-in-Thousandths-clause-values
returns-in-Thousandths-clause-values c =
    adds_value _ c.in-Thousandths.is c.push_thousandths.ensures.bytes refl

pub returns-in-Exact-clause-values : goal.returns-in-Exact-clause-values
returns-in-Exact-clause-values c = adds_value _ c.in-Exact.is c.push_fraction.ensures.bytes refl

pub returns-in-Rolls-clause-values : goal.returns-in-Rolls-clause-values
returns-in-Rolls-clause-values c =
    adds_value _ c.in-Rolls.is c.push_thousandths-in-Rolls.ensures.bytes
    (c.thousandths.result, c.thousandths.ensures, refl)

pub returns-in-ExactRolls-clause-values : goal.returns-in-ExactRolls-clause-values
returns-in-ExactRolls-clause-values c =
    let it = c.board_mean_fraction in
    adds_value _ c.in-ExactRolls.is c.push_fraction-in-ExactRolls.ensures.bytes record {
      numerator = it.result.numerator;
      denominator = it.result.denominator;
      lowest = it.ensures;
      written = refl;
    }

pub returns-in-Percent-clause-values : goal.returns-in-Percent-clause-values
returns-in-Percent-clause-values c = adds_value _ c.in-Percent.is c.push_percent.ensures.bytes
    (c.thousandths-in-Percent.result, c.thousandths-in-Percent.ensures, refl)

pub returns-in-Counts-clause-values : goal.returns-in-Counts-clause-values
returns-in-Counts-clause-values c = adds_value _ c.in-Counts.is c.push_position.ensures.bytes refl

pub returns-in-Dice-clause-values : goal.returns-in-Dice-clause-values
returns-in-Dice-clause-values c =
    adds_value _ c.in-Dice.is (c.push_str-in-Dice-2.ensures.bytes
    ∙ ap (λ t. t ++ c.format-in-Dice-2.result.now) c.push_str-in-Dice.ensures.bytes
    ∙ append_assoc c.args.text.now.bytes c.format-in-Dice.result.now c.format-in-Dice-2.result.now)
    (ap₂ (λ a b. a ++ b)
    (c.format-in-Dice.ensures.text ∙ ap decimal (c.number.ensures.value
    ∙ ap number c.high.ensures.value))
    (c.format-in-Dice-2.ensures.text ∙ ap decimal (c.number-in-Dice.ensures.value
    ∙ ap number c.low.ensures.value)))

pub returns-in-Some-clause-values : goal.returns-in-Some-clause-values
returns-in-Some-clause-values c =
    adds_value _ c.in-Play.is c.push_str-in-Some.ensures.bytes (
      moves_of c.in-Some.play.items,
      λ legal. (c.in-Some.ensures {u = tt}).first,
      c.as_str.ensures.value ∙ c.write_play.ensures,
    )

pub returns-in_default-clause-values : goal.returns-in_default-clause-values
returns-in_default-clause-values c =
    adds_value _ c.in-Play.is (sym (append-nil c.args.text.now.bytes))
    ([], λ legal. absurd (grind (arith, legal, c.in_default.ensures {u = tt})), refl)
