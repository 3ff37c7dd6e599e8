-- A board file that was accepted is right, and of version 3.
use Rattle.std.proofs.Common.{refl}
use Rattle.epc_query.proofs.opened.accept_as.Goals as goal

pub returns-in-Ok-clause-right : goal.returns-in-Ok-clause-right
returns-in-Ok-clause-right c = rw c.in-Board.is c.in-Ok.ensures.right

pub returns-in-Ok-clause-accepted : goal.returns-in-Ok-clause-accepted
returns-in-Ok-clause-accepted c =
    rw c.in-Board.is
    (record { right = c.in-Ok.ensures.right.0 refl; version = refl; bound = c.in-Ok.ensures.bound })

pub returns-in-Err-clause-right : goal.returns-in-Err-clause-right
returns-in-Err-clause-right c = rw c.in-Board.is c.in-Err.ensures.right
