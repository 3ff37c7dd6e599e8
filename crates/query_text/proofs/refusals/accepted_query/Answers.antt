use Rattle.race_model.specs.Prelude.{no_query, of_too_many}
use Rattle.query_text.specs.Readings.{asked}
use Rattle.query_text.proofs.AcceptedQueries.{accepted_query}
use Rattle.query_text.proofs.refusals.accepted_query.Goals as goal

pub returns-in-None-clause-accepted : goal.returns-in-None-clause-accepted
returns-in-None-clause-accepted c =
    let reading = c.in-Ok.ensures {u = tt} in
    accepted_query _ c.args.line.now (asked c.in-Ok.query) reading.0 reading.1
    (c.in-None.ensures {u = tt})

pub returns-in-Some-clause-refused : goal.returns-in-Some-clause-refused
returns-in-Some-clause-refused c =
    let reading = c.in-Ok.ensures {u = tt} in
    (c.in-Some.ensures {u = tt}) c.args.line.now reading.0 reading.1

pub returns-in-Err-BadLine-clause-refused : goal.returns-in-Err-BadLine-clause-refused
returns-in-Err-BadLine-clause-refused c =
    let reading = rw c.in-Err-BadLine.field-0-is at (c.in-Err-BadLine.ensures {u = tt}) in
    no_query reading

pub returns-in-Err-TooMany-clause-refused : goal.returns-in-Err-TooMany-clause-refused
returns-in-Err-TooMany-clause-refused c =
    let reading = rw c.in-Err-TooMany.field-0-is at (c.in-Err-TooMany.ensures {u = tt}) in
    of_too_many reading.0 reading.1 reading.2
