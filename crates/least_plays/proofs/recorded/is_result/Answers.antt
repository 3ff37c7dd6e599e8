-- A number is the rank of a result where its position is one.
use Rattle.std.proofs.Common.{◌≡◌, sym, ap, subst, ◌∙◌, arith}
use Rattle.std.proofs.lemmas.Bool.{false≢true}
use Rattle.race_model.specs.Prelude.{Legal, rank, at_rank}
use Rattle.race_model.proofs.Ranks.RankOrder.{at_rank_position}
use Rattle.race_model.proofs.Ranks.PositionTotals.{rank-range}
use Rattle.least_plays.proofs.recorded.is_result.Goals as goal

pub returns-in-Some : goal.returns-in-Some
returns-in-Some c =
    let leads = Legal c.args.position.now c.args.roll in
    let there : c.in-Some.to ≡ at_rank c.args.number = c.in-Some.ensures.value in
    let said = c.play_to.ensures.legal in (
      λ yes. (
        subst leads there (said.0 (sym c.is_some.ensures ∙ yes)),
        ap rank (sym there) ∙ c.in-Some.ensures.ranked,
      ),
      λ is. c.is_some.ensures ∙ said.1 (subst leads (sym there) is.0),
    )

pub returns-in-None : goal.returns-in-None
returns-in-None c = (
  λ yes. absurd (false≢true yes),
  λ is.
      let n = c.args.number in
      let range = rank-range (at_rank n) (at_rank_position n) in
      c.in-None.ensures.some.1 (omega (arith, range, is.1)),
)
