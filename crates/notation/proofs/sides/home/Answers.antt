use Rattle.notation.proofs.Homes.{few_at_home}
use Rattle.notation.proofs.sides.home.Goals as goal

pub returns-in-Err : goal.returns-in-Err
returns-in-Err c =
    let few = few_at_home c.args.side.now c.told-side c.requires in
    let h = c.in-Err.ensures.accepted.1 few in
    cc
