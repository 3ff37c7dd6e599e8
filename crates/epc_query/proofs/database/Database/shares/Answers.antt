use Rattle.std.proofs.Common.{◌≡◌, ◌≢◌, refl, sym, subst, ◌∙◌, arith, slice_index, get_or-set_other, replicate}
use Rattle.std.proofs.lemmas.List.{length-set}
use Rattle.ranking.proofs.Cells.{zeros}
use Rattle.fixed_fraction.proofs.Shares.{one_more_cell}
use Rattle.epc_query.proofs.database.Database.shares.Goals as goal

pub loop-k-init : goal.loop-k-init
loop-k-init c = record {
  size = refl;
  told = λ k low. absurd (omega (arith, low));
  none = λ k from.
      subst (λ n. slice_index (replicate 34 n) k ≡ 0) (sym c.of-shares.ensures) (zeros 34 k);
}

pub loop-k-preserved : goal.loop-k-preserved
loop-k-preserved c = record {
  size = length-set c.loop-k.shares c.from.result c.of.result ∙ c.loop-k.invariant.size;
  told = one_more_cell (slice_index c.in_ok-spread.spread) c.loop-k.shares
      c.loop-k.k c.from.result c.of.result c.from.ensures
      (omega (arith, c.loop-k.invariant.size)) c.loop-k.invariant.told
      (c.of.ensures ∙ c.at.ensures.value);
  none = λ k from.
      let other : k ≢ c.from.result = λ e. absurd (omega (arith, e, from, c.from.ensures)) in
      get_or-set_other c.loop-k.shares c.from.result k c.of.result 0 other
      ∙ c.loop-k.invariant.none k (omega (arith, from));
}

pub returns-clause-recorded : goal.returns-clause-recorded
returns-clause-recorded c = λ k few.
    c.loop-k.invariant.told k (omega (arith, few, c.loop-k-test.false))
    ∙ (c.in_ok-spread.ensures {u = tt}).recorded k few

pub returns-clause-beyond : goal.returns-clause-beyond
returns-clause-beyond c = λ k beyond. c.loop-k.invariant.none k (omega (arith, beyond))
