use Rattle.std.proofs.Common.{sym, subst₂}
use Rattle.race_model.specs.Prelude.{IsDistReplyOver}
use Rattle.fixed_fraction.specs.Board.{board_whole}
use Rattle.epc_query.specs.Kinds.{long_by}
use Rattle.epc_query.proofs.Books.{rank_low, pips_of_rank}
use Rattle.epc_query.proofs.answers.answer_dist.Goals as goal

pub put_dist-requires : goal.put_dist-requires
put_dist-requires c =
    let x = c.args.position.now in
    record {
      pips = pips_of_rank x c.pips.result c.rank.result c.pips.ensures.position
          c.pips.ensures.value c.rank.ensures.value;
      rank = rw c.rank.ensures.value
          (rank_low (long_by c.args.opened.now) x c.pips.ensures.position c.requires);
    }

pub returns-clause-answer : goal.returns-clause-answer
returns-clause-answer c =
    subst₂ (λ most r. IsDistReplyOver board_whole most ((long_by c.args.opened.now).shares r)
    c.put_dist.new.text.bytes)
    (sym c.long_bound-bound.ensures.rolls) c.rank.ensures.value c.put_dist.ensures.text
