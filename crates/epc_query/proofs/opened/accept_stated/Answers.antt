use Rattle.epc_query.proofs.FileBooks.{right_stated, stated_right}
use Rattle.epc_query.proofs.opened.accept_stated.Goals as goal

pub returns-clause-right : goal.returns-clause-right
returns-clause-right c =
    let f = c.args.bytes.now in
    let right = rw c.stated_kind.ensures at c.accept_as.ensures.right in
    (λ ok. right_stated f (right.0 ok), λ is. right.1 (stated_right f is))
