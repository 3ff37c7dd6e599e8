use Rattle.std.proofs.Common.{◌≡◌, ◌+◌, ◌-◌, ◌*◌, ◌/◌, rules}
use Rattle.race_model.specs.Prelude.{IsRoll, roll_index}
use Rattle.legal_plays.proofs.PlayToLemmas.{roll_at_is}
use Rattle.legal_plays.proofs.roll.Roll.index.Goals as goal

pub returns-clause-found : goal.returns-clause-found
returns-clause-found c =
    let roll : IsRoll c.args.self = rw (← c.self.view_is) c.self.invariant in
    let place : roll_index c.args.self ≡ c.number-high.result * (c.number-high.result
    - 1) / 2 + c.number.result - 1 =
    search rules in
    roll_at_is _ _ place roll
