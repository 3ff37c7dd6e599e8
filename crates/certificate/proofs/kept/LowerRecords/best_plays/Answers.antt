-- The means of the lower ranks are there.
use Rattle.std.proofs.Common.{rules}
use Rattle.certificate.proofs.kept.LowerRecords.best_plays.Goals as goal

pub advance-requires : goal.advance-requires
advance-requires g c = (
  search rules,
  (c.requires.rows, (c.requires.room, c.requires.known)),
)
