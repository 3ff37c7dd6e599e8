use Rattle.std.proofs.Common.{◌∙◌}
use Rattle.epc_query.specs.Kinds.{book_by}
use Rattle.epc_query.proofs.Longs.{mean_as, under_as}
use Rattle.epc_query.proofs.opened.Opened.mean.Goals as goal

pub pips_at-requires : goal.pips_at-requires
pips_at-requires c = under_as c.args.self.now.0 c.args.self.now.1 c.args.rank c.requires

pub returns-clause-recorded : goal.returns-clause-recorded
returns-clause-recorded c =
    c.numerator.ensures ((book_by c.args.self.now).means c.args.rank)
    ((c.in_ok-mean.ensures {u = tt}).recorded
    ∙ mean_as c.args.self.now.0 c.args.self.now.1 c.args.rank)
