use Rattle.std.proofs.Common.{le_trans}
use Rattle.race_model.specs.Prelude.{version_by}
use Rattle.db_layout.proofs.Bounds.{bound-most}
use Rattle.db_layout.proofs.writing.write_record.Goals as goal

pub returns-clause-reads : goal.returns-clause-reads
returns-clause-reads g c =
    c.law_record.ensures (version_by c.args.header.now.version) c.args.pips
    (le_trans c.requires.low (bound-most c.args.header.now)) c.requires.held
