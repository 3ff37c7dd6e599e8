use Rattle.std.proofs.Common.{◌≡◌, ◌*◌, [], length, Result, Ok, Err, sym, ap, subst, ◌∙◌, arith, take_all}
use Rattle.race_model.specs.Prelude.{book_of, further_by, loss}
use Rattle.fixed_fraction.specs.Board.{part}
use Rattle.db_layout.specs.declared.stated.Kind.TheVariants.{Database}
use Rattle.certificate.specs.declared.query_fault.QueryFault.{QueryFault}
use Rattle.certificate.specs.declared.query_fault.QueryFault.TheVariants.{Read}
use Rattle.certificate.proofs.Databases.{stays_as, stays_more}
use Rattle.epc_query.specs.Choices.{IsByLoss, IsShort}
use Rattle.epc_query.proofs.LossOrder.{AreOf, none_by_loss, none_of, one_more_of, still_all, fresh_rank, list_of}
use Rattle.epc_query.proofs.Longs.{loss_as, moves_as}
use Rattle.epc_query.proofs.pages.moves.list.Goals as goal

-- what was read did not fail
read : {T : Type 0} (r : Result T QueryFault) (x : T) → r ≡ Ok x → r ≡ Err Read → ⊥
read r x was failed = cc

pub loop-to-init : goal.loop-to-init
loop-to-init g c = record {
  ordered = subst IsByLoss (sym c.requires.none) none_by_loss;
  few = ap length c.requires.none;
  are = subst (AreOf []) (sym c.requires.none) none_of;
  losses = λ file t k d low. absurd (omega (arith, low, ap length c.requires.none));
  short = λ k d low. absurd (omega (arith, low, ap length c.requires.none));
  stays = stays_as c.least_mean.ensures.stays (λ no. absurd no)
      (read c.least_mean.result c.in_ok-least.least c.in_ok-least.was);
}

pub lost_beside-requires-clause-legal : goal.lost_beside-requires-clause-legal
lost_beside-requires-clause-legal g c =
    (c.requires.results c.to-item.result).0
    (c.loop-to.to-index, c.loop-to-test.true, sym c.to-item.is)

pub include_choice-requires : goal.include_choice-requires
include_choice-requires g c = record {
  room = omega (arith, c.loop-to.invariant.few, c.requires.few);
  ordered = c.loop-to.invariant.ordered;
  fresh = λ k d inside same.
      fresh_rank c.args.found.now c.loop-to.to-index c.loop-to.choices.items c.to-item.result
      (λ z held. c.law_results.ensures.position c.args.position.now c.args.roll z
      c.requires.position ((c.requires.results z).0 held))
      c.requires.in_order c.loop-to-test.true c.to-item.is c.loop-to.invariant.are k d inside
      (same ∙ c.rank-rank.ensures.value);
}

pub loop-to-preserved : goal.loop-to-preserved
loop-to-preserved g c =
    let before = c.loop-to.invariant in
    let told = c.in_ok-loss.ensures {u = tt} in
    record {
      ordered = c.include_choice.ensures.ordered;
      few = omega (arith, c.include_choice.ensures.len, before.few);
      are = one_more_of c.args.found.now c.loop-to.to-index c.loop-to.choices.items _ _
          c.loop-to-test.true c.to-item.is c.rank-rank.ensures.value
          c.include_choice.ensures.members before.are;
      losses = λ file t.
          still_all
          (λ choice. choice.loss ≡ part * loss file c.args.position.now c.args.roll choice.to)
          c.loop-to.choices.items _ _ (before.losses file t)
          (omega (arith, c.of.ensures, told.recorded file (before.stays.told ∙ t)))
          c.include_choice.ensures.members;
      short = still_all IsShort c.loop-to.choices.items _ _ before.short (
        c.in_ok-loss.loss,
        omega (arith, c.numerator-numerator.ensures.value, c.numerator-numerator.ensures.range),
        c.of.ensures,
      ) c.include_choice.ensures.members;
      stays = stays_more before.stays told.stays (λ e. cc);
    }

pub returns-clause-listed : goal.returns-clause-listed
returns-clause-listed g c = λ file t.
    moves_as Database file c.args.position.now c.args.roll _
    (list_of (record { to = c.args.position.now; rank = 0; loss = 0 })
    (further_by 11 (book_of file)) c.args.position.now c.args.roll c.args.found.now
    c.loop-to.choices.items c.requires.results
    c.loop-to.invariant.ordered
    (subst (λ ys. AreOf ys c.loop-to.choices.items)
    (take_all c.loop-to.to-index c.args.found.now (omega arith)) c.loop-to.invariant.are)
    (λ k d low. c.loop-to.invariant.losses file t k d low
    ∙ sym (loss_as Database file c.args.position.now c.args.roll _)))
