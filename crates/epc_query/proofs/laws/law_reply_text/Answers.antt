-- What is answered to a line and how it is written make its reply, kind by kind.
use Rattle.epc_query.proofs.Answered.{reply_text}
use Rattle.epc_query.proofs.laws.law_reply_text.Goals as goal

pub returns : goal.returns
returns c = reply_text c.law_results.ensures.position
