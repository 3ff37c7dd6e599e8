use Rattle.std.proofs.Common.{ap, sym, ◌∙◌, arith}
use Rattle.race_model.specs.Prelude.{roll_index, version_by, play_of}
use Rattle.race_model.proofs.Strategies.Horizons.{most_rolls-most}
use Rattle.race_model.proofs.RightFiles.ToldRecords.{told_play}
use Rattle.db_layout.proofs.record.RecordView.play.Goals as goal

pub returns : goal.returns
returns c =
    c.read_play.ensures
    ∙ ap (play_of c.self.inside.bytes.now) c.index.ensures.value
    ∙ sym (told_play (version_by c.self.inside.version) c.self.inside.pips
    c.self.inside.bytes.now (roll_index c.args.roll)
    (most_rolls-most c.self.inside.pips c.self.invariant.1) c.self.invariant.0
    (omega (arith, c.index.ensures.value, c.index.ensures.range)))
    ∙ ap (λ l. play_of l (roll_index c.args.roll)) c.self.view_is
