-- What a right file says over 33 throws is a right book, whatever its kind.
use Rattle.std.proofs.Common.{sym, ◌∙◌, le_trans, le_of_eq}
use Rattle.epc_query.proofs.FileBooks.{opened_file, most_bound}
use Rattle.epc_query.proofs.Longs.{bound_as, right_as, long_enough, rolls_as, reply_as}
use Rattle.epc_query.proofs.opened.Opened.long_bound.Goals as goal

pub returns-clause-bound : goal.returns-clause-bound
returns-clause-bound c =
    rw (← c.self.view_is)
    (c.self.invariant.0.bound ∙ sym (bound_as c.self.inside.kind c.self.inside.bytes.now))

pub returns-clause-right : goal.returns-clause-right
returns-clause-right c =
    rw (← c.self.view_is)
    (right_as c.self.inside.kind c.self.inside.bytes.now c.self.invariant.0.right)

pub returns-clause-long : goal.returns-clause-long
returns-clause-long c =
    rw (← c.self.view_is)
    (long_enough c.self.inside.kind c.self.inside.bytes.now c.self.invariant.0.right)

pub returns-clause-rolls : goal.returns-clause-rolls
returns-clause-rolls c =
    rw (← c.self.view_is) (rolls_as c.self.inside.kind c.self.inside.bytes.now)

pub returns-clause-replies : goal.returns-clause-replies
returns-clause-replies c line text =
    rw (← c.self.view_is)
    (reply_as c.self.inside.kind c.self.inside.bytes.now line text c.self.invariant.0.right)

pub returns-clause-file : goal.returns-clause-file
returns-clause-file c = opened_file _ _ c.self.view_is c.self.invariant.0.right

pub returns-clause-range : goal.returns-clause-range
returns-clause-range c =
    let kept = c.self.invariant.0 in
    le_trans (le_of_eq kept.bound)
    (most_bound c.self.inside.kind c.self.inside.bytes.now kept.right)
