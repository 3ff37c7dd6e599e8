use Rattle.std.proofs.Common.{sym, ◌∙◌}
use Rattle.race_model.specs.Prelude.{whole_in}
use Rattle.epc_query.specs.Kinds.{book_by}
use Rattle.epc_query.proofs.Longs.{whole_as}
use Rattle.epc_query.proofs.opened.Opened.whole.Goals as goal

pub returns : goal.returns
returns c =
    c.numerator.ensures (whole_in (book_by c.args.self.now))
    (c.of_parts.ensures ∙ sym (whole_as c.args.self.now.0 c.args.self.now.1))
