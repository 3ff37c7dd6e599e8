use Rattle.query_text.proofs.Words.{result_read, no_roll_before}
use Rattle.query_text.proofs.query.read_result.Goals as goal

pub returns-in_default-read_roll : goal.returns-in_default-read_roll
returns-in_default-read_roll c =
    no_roll_before c.args.text.now _ c.in-Some.rest.now _ c.in-Some-cut.to.now
    c.in-Some.ensures.1 c.in-Some-cut.ensures.1 c.in_default-read_roll.ensures

pub returns : goal.returns
returns c =
    rw c.both.ensures
    (result_read c.args.text.now _ _ _ _ c.in-Some-read_roll.roll c.read_position.result
    c.read_position-2.result c.in-Some.ensures c.in-Some-cut.ensures
    c.in-Some-read_roll.ensures c.read_position.ensures c.read_position-2.ensures)
