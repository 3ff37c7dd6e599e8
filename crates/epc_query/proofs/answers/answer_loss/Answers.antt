use Rattle.std.proofs.Common.{refl, subst}
use Rattle.race_model.specs.Prelude.{IsFraction, fraction_text}
use Rattle.fixed_fraction.specs.Board.{board_whole}
use Rattle.epc_query.proofs.answers.answer_loss.Goals as goal

pub returns-clause-answer : goal.returns-clause-answer
returns-clause-answer c =
    let n = c.board_mean_fraction.result.numerator in
    let d = c.board_mean_fraction.result.denominator in (
      fraction_text n d,
      record {
        numerator = n;
        denominator = d;
        lowest = subst (λ l. IsFraction l board_whole n d)
            (c.in_ok-loss.ensures {u = tt}).recorded c.board_mean_fraction.ensures;
        written = refl;
      },
      c.put_loss.ensures.text,
    )
