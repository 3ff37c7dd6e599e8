use Rattle.std.proofs.Common.{[], ◌∷◌}
use Rattle.legal_plays.proofs.ReachLemmas.{first_die, next_die}
use Rattle.legal_plays.proofs.reach.after_two.Goals as goal

pub returns-clause-members : goal.returns-clause-members
returns-clause-members g c =
    let first =
    first_die c.args.position.now c.args.first c.after_die-positions.result.items
    c.after_die-positions.ensures.members in
    next_die c.args.position.now (c.args.first ∷ []) c.args.second
    c.after_die-positions.result.items c.after_die.result.items first
    (rw c.as_slice.ensures.value at c.after_die.ensures.members)
