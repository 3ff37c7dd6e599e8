use Rattle.std.proofs.Common.{◌≡◌, ◌+◌, ◌*◌, [], ◌∷◌, ◌++◌, All, length, map, take, ap, sym, subst, ◌∙◌, arith}
use Rattle.std.proofs.lemmas.List.{length_push, map_push, take_more}
use Rattle.std.proofs.lemmas.List.Elements.{All-push}
use Rattle.race_model.specs.Prelude.{whole, IsFraction}
use Rattle.fixed_fraction.specs.Board.{part}
use Rattle.query_text.specs.declared.reply.Choice.{Choice}
use Rattle.epc_query.specs.Choices.{IsShort, result_of}
use Rattle.epc_query.proofs.pages.moves.in_lowest_terms.Goals as goal

-- the choice was added
added : (c : goal.After-unwrap)
    → c.push.new.self.items ≡ c.loop-choice.choices.items
    ++ (record { to = c.choice-item.result.to; loss = c.short_fraction.result }) ∷ []
added c = rw c.unwrap.ensures at c.push.ensures.items

pub short_fraction-requires : goal.short_fraction-requires
short_fraction-requires c =
    subst IsShort (sym c.choice-item.is)
    (c.requires.short c.loop-choice.choice-index c.choice-item.result c.loop-choice-test.true)

pub loop-choice-preserved : goal.loop-choice-preserved
loop-choice-preserved c =
    let i = c.loop-choice.choice-index in
    let ranked = c.args.ranked.now in
    let from = c.choice-item.result in
    let one : Choice = record { to = from.to; loss = c.short_fraction.result } in
    let longer : take (i + 1) ranked ≡ take i ranked ++ from ∷ [] =
    take_more ranked i from c.loop-choice-test.true
    ∙ ap (λ y. take i ranked ++ y ∷ []) (sym c.choice-item.is) in
    record {
      count = ap length (added c) ∙ length_push c.loop-choice.choices.items one
          ∙ ap (λ n. n + 1) c.loop-choice.invariant.count;
      room = omega (arith, c.loop-choice.invariant.room, c.push.ensures.capacity);
      results = ap (map (λ choice. choice.to)) (added c)
          ∙ map_push (λ choice. choice.to) c.loop-choice.choices.items one
          ∙ ap (λ ys. ys ++ from.to ∷ []) c.loop-choice.invariant.results
          ∙ sym (ap (map result_of) longer ∙ map_push result_of (take i ranked) from);
      losses = λ loss_of are.
          let IsTold = λ (choice : Choice). IsFraction (loss_of choice.to) whole
          choice.loss.numerator choice.loss.denominator in
          subst (All IsTold) (sym (added c))
          (All-push IsTold c.loop-choice.choices.items one
          (c.loop-choice.invariant.losses loss_of are)
          (c.short_fraction.ensures (loss_of from.to)
          (subst (λ y. y.loss ≡ part * loss_of y.to) (sym c.choice-item.is)
          (are i from c.loop-choice-test.true))));
    }
