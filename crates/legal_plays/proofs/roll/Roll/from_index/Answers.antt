use Rattle.std.proofs.Common.{◌≡◌, rules}
use Rattle.race_model.specs.Prelude.{IsRoll, roll_index}
use Rattle.legal_plays.proofs.PlayToLemmas.{roll_at_is}
use Rattle.legal_plays.proofs.roll.Roll.from_index.Goals as goal

pub returns-clause-value : goal.returns-clause-value
returns-clause-value c =
    let roll : IsRoll (record { first = c.in_ok-new.field-0; second = c.in_ok-new-2.field-0 }) =
    search rules in
    let place : roll_index (record {
      first = c.in_ok-new.field-0;
      second = c.in_ok-new-2.field-0;
    }) ≡ c.args.index =
    search rules in
    roll_at_is _ _ place roll
