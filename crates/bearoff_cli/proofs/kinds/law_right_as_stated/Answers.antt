-- Each of the two words follows from the other.
use Rattle.epc_query.proofs.FileBooks.{right_stated, stated_right}
use Rattle.bearoff_cli.proofs.kinds.law_right_as_stated.Goals as goal

pub returns : goal.returns
returns c f = (stated_right f, right_stated f)
