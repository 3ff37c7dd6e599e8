use Rattle.std.proofs.Common.{◌≡◌, ◌≢◌, ◌↔◌, All, List, [], Contains, get_or, length, sym, ap, subst}
use Rattle.std.proofs.Common.{◌∙◌, arith, take_all}
use Rattle.std.proofs.lemmas.List.Elements.{All-contains_itself}
use Rattle.race_model.specs.Prelude.{Board, Legal, loss_in}
use Rattle.legal_plays.specs.RankOrder.{IsInRankOrder}
use Rattle.epc_query.specs.Choices.{IsByLoss}
use Rattle.epc_query.specs.Kinds.{long_by}
use Rattle.epc_query.proofs.LossOrder.{AreOf, none_by_loss, none_of, one_more_of, still_all, fresh_rank, list_of}
use Rattle.epc_query.proofs.move_lists.list.Goals as goal
use Rattle.epc_query.proofs.move_lists.list.Goals.{After-as_slice-to-items, After-rank-rank, After-loop-to}

pub loop-to-init : goal.loop-to-init
loop-to-init c =
    record {
      ordered = subst IsByLoss (sym c.requires.none) none_by_loss;
      few = ap length c.requires.none;
      are = subst (AreOf []) (sym c.requires.none) none_of;
      losses = λ k d low. absurd (omega (arith, low, ap length c.requires.none));
    }

-- the results are all to which the roll leads
legal : (c : After-as_slice-to-items) (y : Board) →
    Contains c.as_slice-to-items.result.now y ↔ Legal c.args.position.now c.args.roll y
legal c y =
    subst (λ (ys : List Board). Contains ys y ↔ Legal c.args.position.now c.args.roll y)
    (sym c.as_slice-to-items.ensures.value) (c.results-found.ensures.members y)

pub lost-requires-clause-legal : goal.lost-requires-clause-legal
lost-requires-clause-legal c =
    (legal (goal.at.lost-requires-clause-legal c).After-as_slice-to-items
    c.to-item.result).0
    (c.loop-to.to-index, c.loop-to-test.true, sym c.to-item.is)

-- the rank of a result is that of no result before it
fresh : (c : After-rank-rank) →
    All (λ other. other.rank ≢ c.rank-rank.result) c.loop-to.choices.items
fresh c k d inside same =
    fresh_rank c.as_slice-to-items.result.now
    c.loop-to.to-index c.loop-to.choices.items c.to-item.result
    (λ z held. c.law_results.ensures.position _ c.args.roll z c.pips-pips.ensures.position
    ((c.results-found.ensures.members z).0
    (subst (λ (ys : List Board). Contains ys z) c.as_slice-to-items.ensures.value held)))
    (subst IsInRankOrder (sym c.as_slice-to-items.ensures.value) c.results-found.ensures.ordered)
    c.loop-to-test.true c.to-item.is c.loop-to.invariant.are k d inside
    (same ∙ c.rank-rank.ensures.value)

pub include_choice-requires : goal.include_choice-requires
include_choice-requires c = record {
  room = omega (
    arith,
    ap length c.as_slice-to-items.ensures.value,
    c.loop-to.invariant.few,
    c.results-found.ensures.few,
  );
  ordered = c.loop-to.invariant.ordered;
  fresh = fresh (goal.at.include_choice-requires c).After-rank-rank;
}

pub loop-to-preserved : goal.loop-to-preserved
loop-to-preserved c =
    record {
      ordered = c.include_choice.ensures.ordered;
      few = omega (arith, c.include_choice.ensures.len, c.loop-to.invariant.few);
      are = one_more_of c.as_slice-to-items.result.now c.loop-to.to-index
          c.loop-to.choices.items c.include_choice.new.choices.items _ c.loop-to-test.true
          c.to-item.is c.rank-rank.ensures.value c.include_choice.ensures.members
          c.loop-to.invariant.are;
      losses = still_all
          (λ choice. choice.loss ≡ loss_in (long_by c.args.opened.now)
          c.args.position.now c.args.roll choice.to)
          c.loop-to.choices.items c.include_choice.new.choices.items _ c.loop-to.invariant.losses
          (c.in_ok-loss.ensures {u = tt}).recorded c.include_choice.ensures.members;
    }

-- the choices are of all results
all_of : (c : After-loop-to) →
    length c.as_slice-to-items.result.now ≡ c.loop-to.to-index →
    AreOf c.as_slice-to-items.result.now c.loop-to.choices.items
all_of c end =
    subst (λ ys. AreOf ys c.loop-to.choices.items)
    (take_all c.loop-to.to-index c.as_slice-to-items.result.now (omega (arith, end)))
    c.loop-to.invariant.are

pub returns-clause-listed : goal.returns-clause-listed
returns-clause-listed c =
    let at = (goal.at.returns-clause-listed c).After-loop-to in
    list_of
    (record { to = c.args.position.now; rank = 0; loss = c.in_ok-least.least })
    (long_by c.args.opened.now) c.args.position.now c.args.roll
    c.as_slice-to-items.result.now c.loop-to.choices.items
    (legal (goal.at.returns-clause-listed c).After-as_slice-to-items)
    c.loop-to.invariant.ordered
    (all_of at (omega arith)) c.loop-to.invariant.losses

pub returns-clause-ranks : goal.returns-clause-ranks
returns-clause-ranks c = λ k d inside.
    let held = All-contains_itself c.loop-to.choices.items k d inside in
    (c.loop-to.invariant.are.from (get_or c.loop-to.choices.items k d) held).1
