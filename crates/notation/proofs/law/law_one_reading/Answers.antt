use Rattle.notation.proofs.One.{one_reading}
use Rattle.notation.proofs.law.law_one_reading.Goals as goal

pub returns : goal.returns
returns c = one_reading
