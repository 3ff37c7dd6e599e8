use Rattle.notation.proofs.Written.{written}
use Rattle.notation.proofs.law.law_written.Goals as goal

pub returns : goal.returns
returns c = written
