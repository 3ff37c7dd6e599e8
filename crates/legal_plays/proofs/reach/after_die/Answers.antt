use Rattle.std.proofs.Common.{◌≡◌, ℕ, ◌↔◌, List, Contains, take, take_all, subst, arith}
use Rattle.legal_plays.specs.MoveLists.{PlaysDie}
use Rattle.legal_plays.proofs.ReachLemmas.{one_more_position, stays, steps_on}
use Rattle.legal_plays.proofs.reach.after_die.Goals as goal
use Rattle.legal_plays.proofs.reach.after_die.Goals.{then-is_finished, else-is_finished}

pub loop-position-preserved : goal.loop-position-preserved
loop-position-preserved g c =
    elim c.if-is_finished.branch [
      | then-is_finished w ↦ rw w.found-is (record {
        ordered = w.include.ensures.ordered;
        few = omega (arith, w.include.ensures.len);
        members =
            λ y.
            one_more_position c.args.positions.now c.loop-position.position-index
            c.position-item.result y c.args.die _ _ c.loop-position-test.true
            c.position-item.is
            (stays _ y c.args.die _ _ (c.is_finished.ensures.value.0 w.if-is_finished.true)
            (w.include.ensures.members y)) (c.loop-position.invariant.members y);
      })
      | else-is_finished w ↦ rw w.found-is (record {
        ordered = w.include_steps.ensures.ordered;
        few = omega (arith, w.include_steps.ensures.len);
        members =
            λ y.
            one_more_position c.args.positions.now c.loop-position.position-index
            c.position-item.result y c.args.die _ _ c.loop-position-test.true
            c.position-item.is
            (steps_on _ y c.args.die _ _
            (λ done.
            let e = c.is_finished.ensures.value.1 done in
            let f = w.if-is_finished.false in cc) (w.include_steps.ensures.members y))
            (c.loop-position.invariant.members y);
      })
    ]

pub returns-clause-members : goal.returns-clause-members
returns-clause-members g c y =
    let all : take c.loop-position.position-index c.args.positions.now ≡ c.args.positions.now =
    take_all _ _ (omega arith) in
    subst
    (λ xs.
    Contains c.loop-position.found.items y
    ↔ ((x : List ℕ) × (Contains xs x × PlaysDie x c.args.die y))) all
    (c.loop-position.invariant.members y)
