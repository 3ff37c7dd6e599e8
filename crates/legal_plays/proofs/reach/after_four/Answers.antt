use Rattle.std.proofs.Common.{[], ◌∷◌}
use Rattle.legal_plays.proofs.ReachLemmas.{next_die}
use Rattle.legal_plays.proofs.SourceLemmas.{length-double}
use Rattle.legal_plays.proofs.reach.after_four.Goals as goal

pub returns-clause-members : goal.returns-clause-members
returns-clause-members c =
    let d = c.args.die in
    let three =
    next_die c.args.position.now (d ∷ d ∷ []) d c.after_two-two.result.items
    c.after_die-three.result.items c.after_two-two.ensures.members
    (rw c.as_slice.ensures.value at c.after_die-three.ensures.members) in
    next_die c.args.position.now (d ∷ d ∷ d ∷ []) d c.after_die-three.result.items
    c.after_die.result.items three
    (rw c.as_slice-2.ensures.value at c.after_die.ensures.members)

pub returns-clause-len : goal.returns-clause-len
returns-clause-len c =
    length-double c.args.position.now c.args.die c.after_die.result.items
    c.checkers-checkers.ensures.position.six c.after_die.ensures.ordered
    (λ y. (returns-clause-members c y).0)
