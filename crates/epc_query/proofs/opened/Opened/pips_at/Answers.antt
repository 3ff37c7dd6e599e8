use Rattle.std.proofs.Common.{sym, arith}
use Rattle.race_model.proofs.Ranks.PositionTotals.{count_to-most}
use Rattle.db_layout.proofs.RecordPlaces.{pips_between}
use Rattle.epc_query.specs.Kinds.{long_by}
use Rattle.epc_query.proofs.opened.Opened.pips_at.Goals as goal

pub pips_of-requires : goal.pips_of-requires
pips_of-requires c = omega (arith, c.requires, count_to-most (long_by c.args.self.now).bound)

pub returns : goal.returns
returns c =
    sym (pips_between c.pips_of.result c.args.rank c.pips_of.ensures.from c.pips_of.ensures.to)
