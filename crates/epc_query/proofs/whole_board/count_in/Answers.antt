use Rattle.std.proofs.Common.{arith, rules}
use Rattle.fixed_fraction.proofs.TwoParts.{power_within}
use Rattle.race_model.proofs.RightFiles.CountParts.{told_some}
use Rattle.db_layout.proofs.KnownRecords.{count-one}
use Rattle.epc_query.proofs.whole_board.count_in.Goals as goal

pub returns-in_ok-new-2-clause-value : goal.returns-in_ok-new-2-clause-value
returns-in_ok-new-2-clause-value c =
    let told = told_some c.args.pips c.args.k c.args.stored.now.bytes (omega arith) (omega arith) in
    let none = count-one c.args.stored.now.bytes c.args.k c.if-k-le11.true in
    omega (arith, told, none, (c.in_ok-new-2.ensures {u = tt}).value)

pub returns-then-is_within-clause-some : goal.returns-then-is_within-clause-some
returns-then-is_within-clause-some c most written =
    let told = told_some c.args.pips c.args.k c.args.stored.now.bytes (omega arith) (omega arith) in
    let power = power_within c.args.k 33 c.requires.few in
    c.new-then-is_within.ensures.some.1
    (omega (arith, told, power, most, written (omega arith) (omega arith)))

pub returns-else-is_within-clause-some : goal.returns-else-is_within-clause-some
returns-else-is_within-clause-some c most written =
    let told = told_some c.args.pips c.args.k c.args.stored.now.bytes (omega arith) (omega arith) in
    let lower = written (omega arith) (omega arith) in
    let within = (c.is_within.ensures (omega (arith, lower))).1 (omega (arith, told, most)) in
    absurd (search rules)
