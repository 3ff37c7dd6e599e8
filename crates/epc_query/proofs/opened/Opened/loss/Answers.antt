use Rattle.std.proofs.Common.{subst, ◌∙◌}
use Rattle.race_model.specs.Prelude.{IsFraction}
use Rattle.fixed_fraction.specs.Board.{board_whole}
use Rattle.epc_query.specs.Kinds.{book_by}
use Rattle.epc_query.proofs.Longs.{loss_as, fraction_as, bounds_as}
use Rattle.epc_query.proofs.opened.Opened.loss.Goals as goal

pub loss-requires-clause-within : goal.loss-requires-clause-within
loss-requires-clause-within c = bounds_as c.args.self.now.0 c.args.self.now.1 _ c.requires.within

pub returns-clause-recorded : goal.returns-clause-recorded
returns-clause-recorded c =
    let opened = c.args.self.now in
    let told = c.board_mean_fraction.result in
    fraction_as opened.0 opened.1 _ told.numerator told.denominator
    (subst (λ n. IsFraction n board_whole told.numerator told.denominator)
    ((c.in_ok-lost.ensures {u = tt}).recorded
    ∙ loss_as opened.0 opened.1 c.args.position.now c.args.roll c.args.to.now)
    c.board_mean_fraction.ensures)

pub returns-clause-lost : goal.returns-clause-lost
returns-clause-lost c =
    c.law_loss.ensures.loss (book_by c.args.self.now) c.bound-bound.ensures.long
    c.bound-bound.ensures.right c.args.position.now c.pips-pips.ensures.position
    c.requires.within c.args.roll c.args.to.now c.requires.legal
