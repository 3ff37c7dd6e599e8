use Rattle.std.proofs.Common.{◌<◌, ◌-◌, refl, subst, arith}
use Rattle.std.proofs.Math.Path.{ap₂}
use Rattle.race_model.specs.Prelude.{IsMean, first_of, count_to}
use Rattle.epc_query.proofs.PipCounts.{some_rank, level_means}
use Rattle.epc_query.proofs.pages.levels.level_of.Goals as goal

pub overflow_sub-result : goal.overflow_sub-result
overflow_sub-result c =
    let some : first_of c.args.pips < count_to c.args.pips =
    some_rank c.law_rank.ensures.found c.law_rank.ensures.within
    c.law_at_rank.ensures.position c.law_at_rank.ensures.under c.law_counts.ensures.none
    c.law_counts.ensures.next c.args.pips (omega (arith, c.requires.low)) in
    omega (arith, c.first_of.ensures, c.count_to.ensures)

pub returns : goal.returns
returns c = λ file here. record {
  pips = refl;
  positions = ap₂ (λ a b. a - b) c.count_to.ensures c.first_of.ensures;
  least = c.args.means.least;
  greatest = c.args.means.greatest;
  means =
      level_means c.law_rank.ensures.found c.law_rank.ensures.within
      c.law_at_rank.ensures.position c.law_at_rank.ensures.under
      c.law_counts.ensures.none c.law_counts.ensures.next
      file c.args.pips _ _ (omega (arith, c.requires.low)) here;
  least_is = let same = rw c.unwrap.ensures at c.new.ensures.value in
      subst (λ n. IsMean n c.mean.result.numerator c.mean.result.denominator) same
      c.mean.ensures.value;
  greatest_is = let same = rw c.unwrap-2.ensures at c.new-2.ensures.value in
      subst (λ n. IsMean n c.mean-2.result.numerator c.mean-2.result.denominator) same
      c.mean-2.ensures.value;
}
