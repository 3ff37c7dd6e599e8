use Rattle.std.proofs.Common.{arith}
use Rattle.std.proofs.lemmas.Grind.{common_steps}
use Rattle.plain_model.proofs.plays.legal_positions.Goals as goal

pub returns-clause-ways : goal.returns-clause-ways
returns-clause-ways c = grind (arith, common_steps)

pub returns-clause-members : goal.returns-clause-members
returns-clause-members c y = rw (returns-clause-ways c) (c.law_enumerated.ensures.members _ _ y)
