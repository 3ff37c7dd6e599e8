-- What is known of the records is handed on.
use Rattle.std.proofs.Common.{ap, subst, arith}
use Rattle.db_layout.specs.LowerRecords.{Lower, AreLocalTo}
use Rattle.db_layout.proofs.lower_records.LowerRecords.count.Goals as goal

pub returns-clause-count : goal.returns-clause-count
returns-clause-count c = ap (λ (l : Lower). l.count) c.self.view_is

pub returns-clause-few : goal.returns-clause-few
returns-clause-few c =
    omega (arith, ap (λ (l : Lower). l.count) c.self.view_is, c.self.invariant.few)

pub returns-clause-local : goal.returns-clause-local
returns-clause-local c =
    subst (λ (l : Lower). AreLocalTo l.bytes l.count) c.self.view_is c.self.invariant.local
