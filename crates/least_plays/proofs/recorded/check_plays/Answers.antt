-- One roll more.
use Rattle.std.proofs.Common.{sym, subst, slice_index, below_more}
use Rattle.race_model.specs.Prelude.{roll_at, IsBestPlay}
use Rattle.least_plays.specs.Recorded.{IsLeastPlay, IsRefused}
use Rattle.least_plays.proofs.recorded.check_plays.Goals as goal

pub check_play-requires-clause-best : goal.check_play-requires-clause-best
check_play-requires-clause-best g c =
    subst
    (λ i. IsBestPlay (g.M.RankedMeans.mean c.args.means.now) c.args.position.now
    (roll_at c.loop-index.index) (slice_index c.args.best.now i))
    (sym c.from-place.ensures) (c.requires.best c.loop-index.index c.loop-index-test.true)

pub returns-in-Err-clause-fault : goal.returns-in-Err-clause-fault
returns-in-Err-clause-fault g c = record {
  is_roll = c.loop-index-test.true;
  applies =
      subst
      (λ i. IsRefused (g.M.RankedMeans.mean c.args.means.now) c.args.position.now
      (roll_at c.loop-index.index) (slice_index c.args.recorded.now i) c.in-Err.fault)
      c.from-place.ensures (c.in-Err.ensures {u = tt}).fault;
  earlier = c.loop-index.invariant.held;
}

pub loop-index-preserved : goal.loop-index-preserved
loop-index-preserved g c = record {
  held =
      below_more (λ j. IsLeastPlay (g.M.RankedMeans.mean c.args.means.now) c.args.position.now
      (roll_at j) (slice_index c.args.recorded.now j)) c.loop-index.index
      c.loop-index.invariant.held
      (subst
      (λ i. IsLeastPlay (g.M.RankedMeans.mean c.args.means.now) c.args.position.now
      (roll_at c.loop-index.index) (slice_index c.args.recorded.now i))
      c.from-place.ensures (c.in_default.ensures {u = tt}).least);
}
