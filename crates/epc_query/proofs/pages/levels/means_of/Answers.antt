use Rattle.std.proofs.Common.{◌≡◌, ap, ◌∙◌, lit≤, refl, inl, inr, arith}
use Rattle.std.proofs.lemmas.Bool.{cases_lt}
use Rattle.race_model.specs.Prelude.{mean_at, whole}
use Rattle.certificate.proofs.Databases.{stays_first, stays_more}
use Rattle.epc_query.proofs.PipCounts.{no_means, more_means}
use Rattle.epc_query.proofs.pages.levels.means_of.Goals as goal

pub loop-rank-init : goal.loop-rank-init
unfolding whole
loop-rank-init g c = record {
  means = λ file t. no_means (mean_at file) c.args.first c.args.first _ 0 (omega arith);
  low = lit≤ tt;
  high = lit≤ tt;
  fresh = λ _. (refl, refl);
  stays = stays_first _;
}

pub loop-rank-preserved : goal.loop-rank-preserved
loop-rank-preserved g c =
    let told = c.in_ok-recorded_mean.ensures {u = tt} in
    record {
      means = λ file t.
          let ranked = rw c.unwrap-position.ensures at c.unrank.ensures.ranked in
          let here = told.recorded file (c.loop-rank.invariant.stays.told ∙ t) in
          rw (c.min.ensures, c.max.ensures)
          (more_means (mean_at file) c.args.first c.loop-rank.rank _ _ c.numerator-mean.result
          c.loop-rank.auto.rank
          (c.loop-rank.invariant.means file t) (c.numerator-mean.ensures.value ∙ here
          ∙ ap (mean_at file) ranked)
          (λ e. omega (arith, (c.loop-rank.invariant.fresh e).0, c.numerator-mean.ensures.range))
          (λ e. omega (arith, (c.loop-rank.invariant.fresh e).1)));
      low = omega (arith, c.min.ensures, c.loop-rank.invariant.low);
      high = omega (
        arith,
        c.max.ensures,
        c.loop-rank.invariant.high,
        c.numerator-mean.ensures.range,
      );
      fresh = λ e. absurd (omega arith);
      stays = stays_more c.loop-rank.invariant.stays told.stays (λ e. cc);
    }

pub returns-clause-means : goal.returns-clause-means
returns-clause-means g c = λ file t. elim (cases_lt c.args.first c.args.end) [
  | inl some ↦
      let all : c.loop-rank.rank ≡ c.args.end = omega arith in
      rw all at (c.loop-rank.invariant.means file t)
  | inr none ↦ no_means (mean_at file) c.args.first c.args.end _ _ none
]
