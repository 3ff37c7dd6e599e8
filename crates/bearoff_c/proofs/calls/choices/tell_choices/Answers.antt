use Rattle.std.proofs.Common.{◌≡◌, ℕ, ◌+◌, ◌<◌, List, [], ◌∷◌, ◌++◌, All, length, map, take, ap, sym, subst, ◌∙◌, arith}
use Rattle.std.proofs.lemmas.List.{map-append, take_more, take_more_set, drop-set-lt}
use Rattle.std.proofs.lemmas.List.Elements.{All-push}
use Rattle.race_model.specs.Prelude.{Board, whole_in, loss_in}
use Rattle.epc_query.specs.Choices.{result_of, IsCost}
use Rattle.epc_query.specs.declared.choices.RankedChoice.{RankedChoice}
use Rattle.bearoff_c.specs.declared.calls.choices.Choice.{Choice}
use Rattle.bearoff_c.specs.ChoiceLists.{places_of, HasCost}
use Rattle.bearoff_c.proofs.ByRank.{rest_stays}
use Rattle.bearoff_c.proofs.calls.choices.tell_choices.Goals as goal

pub loop-index-preserved : goal.loop-index-preserved
loop-index-preserved c =
    let i = c.loop-index.index in
    let found = c.args.found.now in
    let room = c.loop-index.room in
    let choice = c.index-found-index.result in
    let fraction = c.of-in-loop-index.result in
    let one : Choice = record { to = c.of.result; loss = fraction } in
    let inside : i < length found = omega arith in
    let low : i < length room = omega arith in
    let less : i < length c.args.room.now = omega arith in
    record {
      places_are =
          ap places_of (take_more_set room i one low)
          ∙ map-append (λ (told : Choice). told.to.points) (take i room) (one ∷ [])
          ∙ ap (λ (ys : List Board). ys ++ c.of.result.points ∷ [])
          c.loop-index.invariant.places_are
          ∙ ap (λ (y : Board). map result_of (take i found) ++ y ∷ []) c.of.ensures
          ∙ sym (map-append result_of (take i found) (choice ∷ []))
          ∙ ap (λ (y : RankedChoice). map result_of (take i found ++ y ∷ []))
          c.index-found-index.is
          ∙ ap (map result_of) (sym (take_more found i choice inside));
      costs = λ b x v are.
          let same : IsCost b x v choice =
          subst (IsCost b x v) (sym c.index-found-index.is) (are i choice inside) in
          let priced : HasCost (whole_in b) (loss_in b x v) one = rw (
            c.of.ensures,
            c.of-in-loop-index.ensures.numerator,
            c.of-in-loop-index.ensures.denominator,
          ) (same _ _ c.board_mean_fraction.ensures) in
          subst (λ (ones : List Choice). All (HasCost (whole_in b) (loss_in b x v)) ones)
          (sym (take_more_set room i one low))
          (All-push (HasCost (whole_in b) (loss_in b x v)) (take i room) one
          (c.loop-index.invariant.costs b x v are) priced);
      rest =
          drop-set-lt (i + 1) room i one (omega arith)
          ∙ rest_stays room c.args.room.now i one one low less c.loop-index.invariant.rest;
    }

pub returns-clause-costs : goal.returns-clause-costs
returns-clause-costs c = λ ok b x v are.
    let all : c.loop-index.index ≡ length c.args.found.now = omega arith in
    subst (λ (n : ℕ). All (HasCost (whole_in b) (loss_in b x v)) (take n c.loop-index.room)) all
    (c.loop-index.invariant.costs b x v are)
