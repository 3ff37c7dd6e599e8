use Rattle.std.proofs.Common.{subst}
use Rattle.epc_query.specs.Lists.{IsListText}
use Rattle.epc_query.specs.Kinds.{long_by}
use Rattle.epc_query.proofs.Lists.{moves_reply}
use Rattle.epc_query.proofs.move_lists.put_list.Goals as goal

pub returns-clause-answer : goal.returns-clause-answer
returns-clause-answer c =
    moves_reply (long_by c.args.opened.now)
    c.args.position.now c.args.roll c.list.new.choices.items c.put_choices.new.text.bytes
    c.list.ensures.listed c.list.ensures.losses
    (subst
    (λ choices. IsListText choices c.put_choices.new.text.bytes)
    c.as_slice.ensures.value c.put_choices.ensures.text)
