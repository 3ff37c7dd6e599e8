use Rattle.query_text.proofs.refusals.has_result.Goals as goal

pub returns-in-Loss : goal.returns-in-Loss
returns-in-Loss c = rw (c.in-Loss.is, c.is_some.ensures) c.play_to.ensures.legal
