use Rattle.std.proofs.Common.{◌≤◌, arith, rules}
use Rattle.race_model.specs.Prelude.{pips, Legal, bound_of, book_of}
use Rattle.race_model.proofs.RightFiles.Right.{short}
use Rattle.query_text.proofs.Held.{on_ok_of}
use Rattle.epc_query.proofs.pages.losses.loss.Goals as goal

pub returns-clause-lost : goal.returns-clause-lost
returns-clause-lost g c =
    let legal : Legal c.args.position.now c.args.roll c.args.to.now = search rules in
    λ file t.
    let right = c.bound.ensures.right file t in
    let within : pips c.args.position.now ≤ bound_of file =
    omega (arith, c.if-pips-bound.false, c.pips.ensures.value, c.bound.ensures.bound, right.1) in
    on_ok_of c.lost.result (c.law_loss.ensures.loss (book_of file)
    (short file right.0.file) right.0.book c.args.position.now c.pips.ensures.position within
    c.args.roll c.args.to.now legal)
