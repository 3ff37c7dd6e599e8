use Rattle.std.proofs.Common.{◌*◌, subst, ◌∙◌}
use Rattle.race_model.specs.Prelude.{IsFraction}
use Rattle.fixed_fraction.specs.Board.{board_whole}
use Rattle.epc_query.specs.Kinds.{book_by}
use Rattle.epc_query.proofs.Longs.{mean_as, under_as, pips_as}
use Rattle.epc_query.proofs.opened.Opened.epc.Goals as goal

pub pips_at-requires : goal.pips_at-requires
pips_at-requires c = under_as c.args.self.now.0 c.args.self.now.1 c.args.rank c.requires

pub returns-clause-exact : goal.returns-clause-exact
returns-clause-exact c =
    let opened = c.args.self.now in
    let told = c.epc.result.exact in
    pips_as opened.0 opened.1 ((book_by opened).means c.args.rank) told.numerator told.denominator
    (subst (λ n. IsFraction (49 * n) (6 * board_whole) told.numerator told.denominator)
    ((c.in_ok-mean.ensures {u = tt}).recorded ∙ mean_as opened.0 opened.1 c.args.rank)
    c.epc.ensures.exact)
