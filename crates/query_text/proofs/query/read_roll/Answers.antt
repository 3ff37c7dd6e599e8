use Rattle.query_text.proofs.Words.{roll_read}
use Rattle.query_text.proofs.query.read_roll.Goals as goal

pub returns : goal.returns
returns c =
    roll_read c.args.text.now c.parse_roll.result c.parse_roll.ensures.valid
    c.parse_roll.ensures.value
