use Rattle.std.proofs.Common.{◌*◌, ap, subst, ◌∙◌}
use Rattle.race_model.specs.Prelude.{IsFraction}
use Rattle.fixed_fraction.specs.Board.{board_whole}
use Rattle.epc_query.specs.Kinds.{long_by}
use Rattle.epc_query.proofs.Books.{rank_low, pips_of_rank}
use Rattle.epc_query.proofs.answers.answer_mean.Goals as goal

pub long_mean-requires : goal.long_mean-requires
long_mean-requires c =
    let x = c.args.position.now in
    record {
      pips = pips_of_rank x c.pips.result c.rank.result c.pips.ensures.position
          c.pips.ensures.value c.rank.ensures.value;
      rank = rw c.rank.ensures.value
          (rank_low (long_by c.args.opened.now) x c.pips.ensures.position c.requires.within);
    }

pub returns-clause-answer : goal.returns-clause-answer
returns-clause-answer c =
    let told = c.told_mean-rolls in
    let rolls = told.result.0 in
    let pips = told.result.1 in
    let recorded = (c.in_ok-mean.ensures {u = tt}).recorded
    ∙ ap (long_by c.args.opened.now).means c.rank.ensures.value in
    record {
      numerator = rolls.numerator;
      denominator = rolls.denominator;
      mean_is = subst (λ n. IsFraction n board_whole rolls.numerator rolls.denominator) recorded
          told.ensures.mean;
      pips_numerator = pips.numerator;
      pips_denominator = pips.denominator;
      pips_are = subst
          (λ n. IsFraction (49 * n) (6 * board_whole) pips.numerator pips.denominator) recorded
          told.ensures.epc;
      thousandths = told.result.2;
      rounded = told.ensures.thousandths;
      written = c.put_mean.ensures.text;
    }
