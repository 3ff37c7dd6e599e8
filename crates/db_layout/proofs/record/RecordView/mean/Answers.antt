use Rattle.std.proofs.Common.{ap, sym, ◌∙◌}
use Rattle.race_model.specs.Prelude.{version_by, mean_of}
use Rattle.race_model.proofs.Strategies.Horizons.{most_rolls-most}
use Rattle.race_model.proofs.RightFiles.ToldRecords.{told_mean}
use Rattle.db_layout.proofs.record.RecordView.mean.Goals as goal

pub returns : goal.returns
returns c =
    c.read_mean.ensures
    ∙ sym (told_mean (version_by c.self.inside.version) c.self.inside.pips
    c.self.inside.bytes.now (most_rolls-most c.self.inside.pips c.self.invariant.1)
    c.self.invariant.0)
    ∙ ap mean_of c.self.view_is
