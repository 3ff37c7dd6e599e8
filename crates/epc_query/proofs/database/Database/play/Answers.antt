use Rattle.std.proofs.Common.{ap, ◌∙◌}
use Rattle.race_model.specs.Prelude.{roll_index, play_of}
use Rattle.certificate.proofs.RecordBytes.{play-of_record}
use Rattle.epc_query.proofs.database.Database.play.Goals as goal

pub returns : goal.returns
returns c =
    c.play.ensures
    ∙ ap (λ b. play_of b (roll_index c.args.roll)) c.record_at.ensures ∙ play-of_record _ _ _
