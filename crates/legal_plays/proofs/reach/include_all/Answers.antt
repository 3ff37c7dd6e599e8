use Rattle.std.proofs.Common.{◌≡◌, ◌↔◌, ◌⊎◌, Contains, take, take_all, subst, arith}
use Rattle.legal_plays.proofs.ReachLemmas.{one_more_other}
use Rattle.legal_plays.proofs.reach.include_all.Goals as goal

pub loop-other-preserved : goal.loop-other-preserved
loop-other-preserved g c = record {
  ordered = c.include.ensures.ordered;
  few = omega (arith, c.include.ensures.len);
  members =
      λ y.
      one_more_other c.args.others.now c.loop-other.other-index c.other-item.result y _ _ _
      c.loop-other-test.true c.other-item.is (c.include.ensures.members y)
      (c.loop-other.invariant.members y);
}

pub returns-clause-members : goal.returns-clause-members
returns-clause-members g c y =
    let all : take c.loop-other.other-index c.args.others.now ≡ c.args.others.now =
    take_all _ _ (omega arith) in
    subst
    (λ xs.
    Contains c.loop-other.found.items y
    ↔ (Contains c.args.found.now.items y ⊎ Contains xs y)) all
    (c.loop-other.invariant.members y)
