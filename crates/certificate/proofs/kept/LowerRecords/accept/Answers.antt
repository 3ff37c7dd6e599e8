-- The mean that is set is that of the last rank, by which nothing is known yet, and it takes the
-- place of one that is too far below.
use Rattle.std.proofs.Common.{◌+◌, sym, arith}
use Rattle.race_model.specs.Prelude.{rank}
use Rattle.least_plays.proofs.Knowing.{knows_agree_near}
use Rattle.certificate.specs.KeptMeans.{kept_mean}
use Rattle.certificate.proofs.KeptMeans.{places_apart}
use Rattle.certificate.proofs.kept.LowerRecords.accept.Goals as goal

pub returns-clause-known : goal.returns-clause-known
returns-clause-known g c =
    let lower = c.args.self.now in
    knows_agree_near (kept_mean g.row.ROOM lower.means) (kept_mean g.row.ROOM c.set.new.self)
    lower.plays (c.args.rank + 1)
    (λ z at below near.
    sym (c.set.ensures.others (rank z)
    (places_apart g.row.ROOM (rank z) c.args.rank (omega arith)
    (c.requires.near z at (omega arith)))))
    c.requires.known
