use Rattle.std.proofs.Common.{◌↔◌, Contains, List, sym, subst}
use Rattle.race_model.specs.Prelude.{Board, Legal, loss, IsMoveList}
use Rattle.epc_query.proofs.pages.moves.moves.Goals as goal

pub list-requires-clause-results : goal.list-requires-clause-results
list-requires-clause-results g c y =
    subst (λ (ys : List Board). Contains ys y ↔ Legal c.args.position.now c.args.roll y)
    (sym c.as_slice.ensures.value) (c.results-found.ensures.members y)

pub returns-clause-choices : goal.returns-clause-choices
returns-clause-choices g c = λ file t.
    let x = c.args.position.now in
    let v = c.args.roll in
    let listed = c.in_ok-list.ensures {u = tt} in
    let told = rw c.as_slice-2.ensures.value at c.in_lowest_terms.ensures in
    record {
      listed = subst (IsMoveList file x v) (sym told.results) (listed.listed file t);
      losses = told.losses (loss file x v) (listed.losses file t);
    }
