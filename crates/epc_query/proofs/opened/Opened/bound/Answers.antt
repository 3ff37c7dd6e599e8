-- The book of a right file is right, whatever its kind.
use Rattle.std.proofs.Common.{le_trans, le_of_eq}
use Rattle.epc_query.proofs.FileBooks.{right_book, long_book, most_bound}
use Rattle.epc_query.proofs.opened.Opened.bound.Goals as goal

pub returns-clause-right : goal.returns-clause-right
returns-clause-right c =
    rw (← c.self.view_is)
    (right_book c.self.inside.kind c.self.inside.bytes.now c.self.invariant.0.right)

pub returns-clause-long : goal.returns-clause-long
returns-clause-long c =
    rw (← c.self.view_is)
    (long_book c.self.inside.kind c.self.inside.bytes.now c.self.invariant.0.right)

pub returns-clause-range : goal.returns-clause-range
returns-clause-range c =
    let kept = c.self.invariant.0 in
    le_trans (le_of_eq kept.bound)
    (most_bound c.self.inside.kind c.self.inside.bytes.now kept.right)
