-- Lower leading bits are those of a lesser mean.
use Rattle.std.proofs.Common.{◌<◌, ap, subst, arith}
use Rattle.race_model.specs.Prelude.{board_place}
use Rattle.db_layout.specs.LowerRecords.{Lower, board_mean, leading_at}
use Rattle.db_layout.proofs.LeadingBits.{leads-tell}
use Rattle.db_layout.proofs.lower_records.LowerRecordsRankedMeans.leading_bits.Goals as goal

pub returns-clause-less : goal.returns-clause-less
returns-clause-less c = λ other under.
    subst
    (λ (l : Lower). leading_at l.bytes (board_place c.args.rank)
    < leading_at l.bytes (board_place other) →
    board_mean l.bytes c.args.rank < board_mean l.bytes other)
    c.self.view_is
    (leads-tell c.self.inside.bytes.now c.self.inside.count c.self.inside.offsets.now
    c.self.inside.leading.now c.self.invariant c.args.rank other
    (omega (arith, c.requires, ap (λ (l : Lower). l.count) c.self.view_is)))
