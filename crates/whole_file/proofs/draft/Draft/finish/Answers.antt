-- A file beside its place ends as its last steps do.
use Rattle.whole_file.proofs.draft.Draft.finish.Goals as goal

pub returns-in-Some-clause-put : goal.returns-in-Some-clause-put
returns-in-Some-clause-put g c = rw c.in-Some.is c.end_beside.ensures.put

pub returns-in-Some-clause-stays : goal.returns-in-Some-clause-stays
returns-in-Some-clause-stays g c = rw c.in-Some.is c.end_beside.ensures.stays

pub returns-in-Some-clause-gone : goal.returns-in-Some-clause-gone
returns-in-Some-clause-gone g c = rw c.in-Some.is c.end_beside.ensures.gone
