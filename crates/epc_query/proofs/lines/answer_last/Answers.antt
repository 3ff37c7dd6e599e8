use Rattle.std.proofs.Common.{◌≡◌, ◌<◌, length, Err, ap, sym, arith, rules}
use Rattle.std.proofs.lemmas.Bool.{eqb-false}
use Rattle.epc_query.proofs.Runs.{last_ended, last_stopped}
use Rattle.epc_query.proofs.lines.answer_last.Goals as goal

pub returns-in_err-write_answer-clause-answered : goal.returns-in_err-write_answer-clause-answered
returns-in_err-write_answer-clause-answered g c = λ file t done start is.
    let fault = c.in_err-write_answer.field-0.0 in
    let same : c.from_residual.result ≡ Err fault = search rules in
    let stopped = rw c.rest-line.ensures at
    ((c.in_err-write_answer.ensures {u = tt}).answered file t) in
    let none = eqb-false _ _ (sym c.if-is_empty.ensures) in
    let some : 0 < length c.args.held.now = omega (arith, ap length c.rest-line.ensures) in
    rw same
    (last_stopped c.law_lines.ensures.short (g.A.Answers.book file) done start _ _ c.args.held.now
    fault is some
    stopped)

pub returns-clause-answered : goal.returns-clause-answered
returns-clause-answered g c = λ file t done start is.
    let has = rw c.rest-line.ensures at
    ((c.in_ok-write_answer.ensures {u = tt}).answered file t) in
    let none = eqb-false _ _ (sym c.if-is_empty.ensures) in
    let some : 0 < length c.args.held.now = omega (arith, ap length c.rest-line.ensures) in
    last_ended c.law_lines.ensures.short (g.A.Answers.book file) done start _ _ c.args.held.now is
    some has
