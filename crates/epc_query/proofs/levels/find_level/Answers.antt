use Rattle.std.proofs.Common.{◌≡◌, ◌<◌, ◌≤◌, ◌-◌, refl, arith}
use Rattle.std.proofs.Math.Path.{ap₂}
use Rattle.race_model.specs.Prelude.{first_of, count_to}
use Rattle.race_model.proofs.Ranks.RankOrder.{count_to-rises}
use Rattle.epc_query.specs.LevelMeans.{AreMeansOf}
use Rattle.epc_query.specs.Kinds.{long_by}
use Rattle.epc_query.proofs.PipCounts.{some_rank, level_in, one_mean, more_means}
use Rattle.epc_query.proofs.levels.find_level.Goals.{After-count_to-end}
use Rattle.epc_query.proofs.levels.find_level.Goals as goal

-- the pip count is one of positions
low : (c : After-count_to-end) → c.args.pips ≤ 90
low c =
    omega (arith, c.requires, c.long_bound-bound.ensures.bound, c.long_bound-bound.ensures.range)

-- some rank has the pip count
some : (c : After-count_to-end) → c.first_of-first.result < c.count_to-end.result
some c = omega (
  arith,
  c.first_of-first.ensures,
  c.count_to-end.ensures,
  some_rank c.law_rank.ensures.found c.law_rank.ensures.within
      c.law_at_rank.ensures.position c.law_at_rank.ensures.under c.law_counts.ensures.none
      c.law_counts.ensures.next c.args.pips (low c),
)

-- the file has that rank
within : (c : After-count_to-end) →
    c.count_to-end.result ≤ count_to (long_by c.args.opened.now).bound
within c =
    omega (
      arith,
      c.count_to-end.ensures,
      count_to-rises c.args.pips (long_by c.args.opened.now).bound
          c.requires,
    )

pub pips_at-requires : goal.pips_at-requires
pips_at-requires c =
    let at = (goal.at.pips_at-requires c).After-count_to-end in
    omega (arith, some at, within at)

pub long_mean-requires : goal.long_mean-requires
long_mean-requires c =
    let at = (goal.at.long_mean-requires c).After-count_to-end in
    record { pips = c.pips_at.ensures; rank = omega (arith, some at, within at) }

pub overflow_step-rank : goal.overflow_step-rank
overflow_step-rank c =
    let at = (goal.at.overflow_step-rank c).After-count_to-end in
    omega (arith, some at, c.count_to-end.type_inv)

pub loop-rank-init : goal.loop-rank-init
loop-rank-init c =
    one_mean (long_by c.args.opened.now).means c.first_of-first.result _
    (c.in_ok-least.ensures {u = tt}).recorded

pub loop-rank-preserved : goal.loop-rank-preserved
loop-rank-preserved c =
    rw (c.lesser-least.ensures, c.greater-greatest.ensures)
    (more_means (long_by c.args.opened.now).means c.first_of-first.result c.loop-rank.rank _ _
    c.in_ok-mean.mean (omega (arith, c.loop-rank.auto.rank))
    c.loop-rank.invariant
    (c.in_ok-mean.ensures {u = tt}).recorded
    (λ e. absurd (omega (arith, c.loop-rank.auto.rank)))
    (λ e. absurd (omega (arith, c.loop-rank.auto.rank))))

pub overflow_sub-result : goal.overflow_sub-result
overflow_sub-result c =
    let at = (goal.at.overflow_sub-result c).After-count_to-end in
    omega (arith, some at)

pub returns-clause-level : goal.returns-clause-level
returns-clause-level c =
    let at = (goal.at.returns-clause-level c).After-count_to-end in
    let means = (long_by c.args.opened.now).means in
    let all : c.loop-rank.rank ≡ c.count_to-end.result =
    omega (arith, some at, c.loop-rank-test.false, c.loop-rank.auto.rank-end) in
    let here : AreMeansOf means (first_of c.args.pips) (count_to c.args.pips)
    c.loop-rank.least c.loop-rank.greatest =
    rw (← c.first_of-first.ensures, ← c.count_to-end.ensures, ← all) c.loop-rank.invariant in
    record {
      pips = refl;
      positions = ap₂ (λ a b. a - b) c.count_to-end.ensures c.first_of-first.ensures;
      means = level_in c.law_rank.ensures.found c.law_rank.ensures.within
          c.law_at_rank.ensures.position c.law_at_rank.ensures.under c.law_counts.ensures.none
          c.law_counts.ensures.next (long_by c.args.opened.now) c.args.pips _ _ (low at) here;
    }
