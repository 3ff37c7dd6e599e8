use Rattle.std.proofs.Common.{◌≡◌, ◌<◌, arith, rules}
use Rattle.race_model.specs.Prelude.{IsPosition, rank}
use Rattle.race_model.proofs.Ranks.PositionTotals.{count_to-most}
use Rattle.race_model.proofs.Ranks.RankOrder.{rank_bound}
use Rattle.epc_query.specs.Kinds.{book_by}
use Rattle.epc_query.proofs.opened.Opened.position_at.Goals as goal

pub unwrap-requires : goal.unwrap-requires
unwrap-requires c =
    let low : c.args.rank < 54264 = omega (
      arith,
      c.requires,
      count_to-most (book_by c.args.self.now).bound,
    ) in
    c.unrank.ensures.some.1 low

pub returns-clause-within : goal.returns-clause-within
returns-clause-within c =
    let x = c.unwrap.result in
    let at : IsPosition x = search rules in
    let ranked : rank x ≡ c.args.rank = search rules in
    (rank_bound x (book_by c.args.self.now).bound at).0 (omega (arith, ranked, c.requires))
