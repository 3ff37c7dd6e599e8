use Rattle.std.proofs.Common.{refl}
use Rattle.race_model.specs.Prelude.{fraction_text}
use Rattle.query_text.specs.Texts.{position_text, result_text}
use Rattle.query_text.proofs.Texts.{position_text_states}
use Rattle.epc_query.proofs.move_lists.put_next.Goals as goal

pub returns-clause-part : goal.returns-clause-part
returns-clause-part c =
    let to = c.args.choice.now.to in
    let n = c.board_mean_fraction.result.numerator in
    let d = c.board_mean_fraction.result.denominator in (
      result_text to n d,
      record {
        position = position_text to;
        position_is = position_text_states to c.checkers-checkers.ensures.position;
        fraction = fraction_text n d;
        loss_is = record {
          numerator = n;
          denominator = d;
          lowest = c.board_mean_fraction.ensures;
          written = refl;
        };
        written = refl;
      },
      c.push_choice.ensures.bytes,
    )
