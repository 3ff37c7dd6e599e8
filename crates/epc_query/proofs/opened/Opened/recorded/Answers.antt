use Rattle.std.proofs.Common.{◌<◌, sym, subst}
use Rattle.race_model.specs.Prelude.{count_to, bound_of}
use Rattle.epc_query.specs.Kinds.{long_by}
use Rattle.epc_query.proofs.Books.{rank_low, pips_of_rank}
use Rattle.epc_query.proofs.Longs.{bound_as}
use Rattle.epc_query.proofs.opened.Opened.recorded.Goals as goal
use Rattle.epc_query.proofs.opened.Opened.recorded.Goals.{After-rank-rank}

-- the file has the rank
low : (c : After-rank-rank) → c.rank-rank.result < count_to (bound_of c.args.self.now.1)
low c =
    subst (λ n. c.rank-rank.result < count_to n)
    (bound_as c.args.self.now.0 c.args.self.now.1)
    (rw c.rank-rank.ensures.value
    (rank_low (long_by c.args.self.now) c.args.position.now c.pips-pips.ensures.position
    c.requires))

pub play-requires-clause-pips : goal.play-requires-clause-pips
play-requires-clause-pips c =
    pips_of_rank c.args.position.now c.pips-pips.result c.rank-rank.result
    c.pips-pips.ensures.position c.pips-pips.ensures.value c.rank-rank.ensures.value

pub play-requires-clause-rank : goal.play-requires-clause-rank
play-requires-clause-rank c =
    subst (λ f. c.rank-rank.result < count_to (bound_of f)) (sym c.database.ensures.bytes)
    (low (goal.at.play-requires-clause-rank c).After-rank-rank)

pub play-requires-in-Board : goal.play-requires-in-Board
play-requires-in-Board c =
    subst (λ f. c.rank-rank.result < count_to (bound_of f)) (sym c.board.ensures.bytes)
    (low (goal.at.play-requires-in-Board c).After-rank-rank)
