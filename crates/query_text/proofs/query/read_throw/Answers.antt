use Rattle.query_text.proofs.Words.{no_roll}
use Rattle.query_text.proofs.query.read_throw.Goals as goal

pub returns-in_default-read_roll : goal.returns-in_default-read_roll
returns-in_default-read_roll c =
    no_roll c.args.text.now _ _ c.in-Some.ensures.1 c.in_default-read_roll.ensures
