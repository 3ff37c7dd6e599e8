use Rattle.std.proofs.Common.{◌∙◌, refl}
use Rattle.race_model.specs.Prelude.{fraction_text}
use Rattle.epc_query.proofs.levels.put_level_line.Goals as goal

pub returns-clause-line : goal.returns-clause-line
returns-clause-line c =
    let has = (c.in_ok-level.ensures {u = tt}).level in
    record {
      least = c.in_ok-level.level.least;
      greatest = c.in_ok-level.level.greatest;
      level = has.means;
      least_text = fraction_text c.board_mean_fraction-least.result.numerator
          c.board_mean_fraction-least.result.denominator;
      least_is = record {
        numerator = c.board_mean_fraction-least.result.numerator;
        denominator = c.board_mean_fraction-least.result.denominator;
        lowest = c.board_mean_fraction-least.ensures;
        written = refl;
      };
      greatest_text = fraction_text c.board_mean_fraction-greatest.result.numerator
          c.board_mean_fraction-greatest.result.denominator;
      greatest_is = record {
        numerator = c.board_mean_fraction-greatest.result.numerator;
        denominator = c.board_mean_fraction-greatest.result.denominator;
        lowest = c.board_mean_fraction-greatest.ensures;
        written = refl;
      };
      written = c.put_level.ensures.text ∙ rw (has.pips, has.positions) refl;
    }
