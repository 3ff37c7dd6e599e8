use Rattle.std.proofs.Common.{◌≡◌, Err, rules}
use Rattle.race_model.specs.Prelude.{lines_of}
use Rattle.epc_query.specs.declared.run_fault.RunFault.TheVariants.{Write}
use Rattle.epc_query.proofs.Runs.{flushed, failed_flush}
use Rattle.epc_query.proofs.running.answer_end.Goals as goal

pub returns-in_err-flush-clause-answered : goal.returns-in_err-flush-clause-answered
returns-in_err-flush-clause-answered g c = λ file t done start is.
    let has = (c.in_ok-count.ensures {u = tt}).answered file t done start is in
    let same : c.from_residual-in_err-flush.result ≡ Err c.in_err-flush.field-0.0 = search rules in
    let told = (c.in_err-flush.ensures {u = tt}).fault in
    let fault : c.in_err-flush.field-0.0 ≡ Write = cc in
    rw (same, fault) (failed_flush (g.A.Answers.book file) (lines_of done) start _ _ has.0
    c.flush.ensures.kept)

pub returns-clause-answered : goal.returns-clause-answered
returns-clause-answered g c = λ file t done start is.
    let has = (c.in_ok-count.ensures {u = tt}).answered file t done start is in
    (flushed (g.A.Answers.book file) (lines_of done) start _ _ has.0 c.flush.ensures.kept, has.1)
