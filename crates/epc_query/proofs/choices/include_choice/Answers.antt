use Rattle.legal_plays.proofs.OrderLemmas.{Contains-insert}
use Rattle.epc_query.proofs.LossOrder.{inserted}
use Rattle.epc_query.proofs.choices.include_choice.Goals as goal

pub returns-clause-members : goal.returns-clause-members
returns-clause-members c other =
    rw c.insert.ensures.items
    (Contains-insert c.args.choices.now.items c.place_of-place.result c.args.choice other)

pub returns-clause-ordered : goal.returns-clause-ordered
returns-clause-ordered c =
    let found = rw c.as_slice.ensures.value at c.place_of-place.ensures in
    rw c.insert.ensures.items
    (inserted c.args.choices.now.items c.place_of-place.result c.args.choice
    found.within
    c.requires.ordered c.requires.fresh found.before found.after)
