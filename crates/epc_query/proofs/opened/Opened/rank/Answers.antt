use Rattle.epc_query.specs.Kinds.{book_by}
use Rattle.epc_query.proofs.Books.{rank_low}
use Rattle.epc_query.proofs.opened.Opened.rank.Goals as goal

pub returns-clause-within : goal.returns-clause-within
returns-clause-within c = rw c.rank.ensures.value
    (rank_low (book_by c.args.self.now) c.args.position.now c.pips-pips.ensures.position c.requires)
