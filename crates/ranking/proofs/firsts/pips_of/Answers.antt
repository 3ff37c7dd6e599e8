use Rattle.std.proofs.Common.{◌≡◌, ◌+◌, ◌<◌, ◌≤◌, ◌⊎◌, inl, inr, slice_index, sym, ap, subst, ◌∙◌, arith}
use Rattle.std.proofs.lemmas.Bool.{cases_lt}
use Rattle.race_model.specs.Prelude.{first_of}
use Rattle.race_model.proofs.Ranks.PositionTotals.{first_of-all}
use Rattle.ranking.specs.declared.firsts.TheConstants.{FIRSTS, LEVELS}
use Rattle.ranking.proofs.LevelCounts.{at_first, level_before}
use Rattle.ranking.proofs.firsts.pips_of.Goals as goal
use Rattle.ranking.proofs.firsts.pips_of.Goals.{After-from-in-loop-pips}

pub loop-pips-init : goal.loop-pips-init
loop-pips-init c =
    let at = level_before c.args.rank c.requires in
    record {
      low = subst (λ i. slice_index LEVELS i ≤ 90) (sym c.from.ensures) at.0;
      from = subst (λ i. first_of (slice_index LEVELS i) ≤ c.args.rank) (sym c.from.ensures) at.1;
    }

-- how many positions have no more pips
next_first : (c : After-from-in-loop-pips) →
    slice_index FIRSTS (c.from-in-loop-pips.result + 1) ≡ first_of (c.loop-pips.pips + 1)
next_first c =
    at_first (c.from-in-loop-pips.result + 1)
    (omega (arith, c.from-in-loop-pips.ensures, c.loop-pips.invariant.low))
    ∙ ap (λ p. first_of (p + 1)) c.from-in-loop-pips.ensures

pub loop-pips-preserved : goal.loop-pips-preserved
loop-pips-preserved c = record {
  low = by_cases (cases_lt c.loop-pips.pips 90);
  from = from;
}
  where
    from : first_of (c.loop-pips.pips + 1) ≤ c.args.rank
    from =
        omega (
          arith,
          c.loop-pips-test.true,
          next_first (goal.at.loop-pips-preserved c).After-from-in-loop-pips,
        )

    by_cases : (c.loop-pips.pips < 90) ⊎ (90 ≤ c.loop-pips.pips) → c.loop-pips.pips + 1 ≤ 90
    by_cases (inl fewer) = omega (arith, fewer)
    by_cases (inr most) =
        absurd (omega (
          arith,
          from,
          c.requires,
          first_of-all (c.loop-pips.pips + 1) (omega (arith, most)),
        ))

pub returns-clause-to : goal.returns-clause-to
returns-clause-to c =
    omega (
      arith,
      c.loop-pips-test.false,
      next_first (goal.at.returns-clause-to c).After-from-in-loop-pips,
    )
