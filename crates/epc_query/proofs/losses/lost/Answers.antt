use Rattle.epc_query.specs.Kinds.{long_by}
use Rattle.epc_query.proofs.Books.{result_low, pips_of_rank}
use Rattle.epc_query.proofs.losses.lost.Goals as goal

pub long_mean-requires : goal.long_mean-requires
long_mean-requires c =
    let y = c.args.to.now in
    record {
      pips = pips_of_rank y c.pips.result c.args.rank c.pips.ensures.position c.pips.ensures.value
          c.requires.rank;
      rank = rw c.requires.rank
          (result_low (long_by c.args.opened.now) c.args.position.now c.pips-pips.ensures.position
          c.requires.within c.args.roll y c.requires.legal);
    }
