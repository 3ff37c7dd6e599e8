use Rattle.std.proofs.Common.{subst, ◌∙◌, map}
use Rattle.race_model.specs.Prelude.{IsFraction}
use Rattle.fixed_fraction.specs.Board.{board_whole}
use Rattle.epc_query.specs.Choices.{result_of}
use Rattle.epc_query.proofs.Longs.{loss_as, fraction_as, bounds_as, moves_as}
use Rattle.epc_query.proofs.opened.Opened.moves.Goals as goal

pub list-requires-clause-within : goal.list-requires-clause-within
list-requires-clause-within c = bounds_as c.args.self.now.0 c.args.self.now.1 _ c.requires.within

pub returns-clause-listed : goal.returns-clause-listed
returns-clause-listed c =
    moves_as c.args.self.now.0 c.args.self.now.1 c.args.position.now c.args.roll
    (map result_of c.list.new.choices.items) c.list.ensures.listed

pub returns-clause-losses : goal.returns-clause-losses
returns-clause-losses c = λ k nothing low n d is.
    let opened = c.args.self.now in
    fraction_as opened.0 opened.1 _ n d
    (subst (λ l. IsFraction l board_whole n d)
    (c.list.ensures.losses k nothing low
    ∙ loss_as opened.0 opened.1 c.args.position.now c.args.roll _) is)
