use Rattle.std.proofs.Common.{◌≡◌, ◌∙◌, ap, rules, slice_index}
use Rattle.race_model.specs.Prelude.{roll_at, roll_index, play_of}
use Rattle.race_model.proofs.Dice.Throws.{roll_of_index}
use Rattle.certificate.proofs.RecordBytes.{are_plays}
use Rattle.certificate.proofs.numbers.plays_in.Goals as goal

pub returns : goal.returns
returns c =
    are_plays c.plays_by.result c.args.view.now c.plays_by.ensures.len
    (λ i lt.
    let said = c.plays_by.ensures.each i lt in
    let told : slice_index c.plays_by.result i ≡ play_of c.args.view.now (roll_index (roll_at i)) =
    search rules in
    told ∙ ap (play_of c.args.view.now) (roll_of_index i lt).1)
