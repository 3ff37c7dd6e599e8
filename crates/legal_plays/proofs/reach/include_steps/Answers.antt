use Rattle.std.proofs.Common.{◌+◌, arith}
use Rattle.legal_plays.proofs.StepLemmas.{one_more_step, no_more_step, only_steps}
use Rattle.legal_plays.proofs.reach.include_steps.Goals as goal
use Rattle.legal_plays.proofs.reach.include_steps.Goals.{in-Some, in_default}

pub loop-source-preserved : goal.loop-source-preserved
loop-source-preserved g c =
    elim c.match-step.branch [
      | in-Some w ↦ rw w.found-is (record {
        ordered = w.include.ensures.ordered;
        range = omega arith;
        few = omega (arith, w.include.ensures.len);
        members =
            λ y.
            one_more_step _ c.args.die c.loop-source.source w.in-Some.after y _ _ _
            w.in-Some.ensures.moved (w.include.ensures.members y)
            (c.loop-source.invariant.members y);
      })
      | in_default w ↦ rw w.found-is (record {
        ordered = c.loop-source.invariant.ordered;
        range = omega arith;
        few = omega arith;
        members =
            λ y.
            no_more_step _ c.args.die c.loop-source.source y _ _ w.in_default.ensures.none
            (c.loop-source.invariant.members y);
      })
    ]

pub returns-clause-members : goal.returns-clause-members
returns-clause-members g c y =
    only_steps _ _ c.args.die c.loop-source.source y _ _ c.highest-source-end.ensures.none.0
    c.highest-source-end.ensures.highest c.loop-source-test.false
    (c.loop-source.invariant.members y)

pub returns-after-step-clause-members : goal.returns-after-step-clause-members
returns-after-step-clause-members g c y =
    elim c.match-step.branch [
      | in-Some w ↦ rw w.found-is (only_steps _ _ c.args.die (c.loop-source.source + 1) y _ _
          c.highest-source-end.ensures.none.0 c.highest-source-end.ensures.highest (omega arith)
          (one_more_step _ c.args.die c.loop-source.source w.in-Some.after y _ _ _
          w.in-Some.ensures.moved (w.include.ensures.members y)
          (c.loop-source.invariant.members y)))
      | in_default w ↦ rw w.found-is (only_steps _ _ c.args.die (c.loop-source.source + 1) y _ _
          c.highest-source-end.ensures.none.0 c.highest-source-end.ensures.highest (omega arith)
          (no_more_step _ c.args.die c.loop-source.source y _ _ w.in_default.ensures.none
          (c.loop-source.invariant.members y)))
    ]
