-- All numbers were written, or some of the first.
use Rattle.std.proofs.Common.{◌∙◌, [], ◌++◌, length, get_or, drop, ap, sym, arith, flat_map}
use Rattle.std.proofs.lemmas.List.{append-nil}
use Rattle.std.proofs.lemmas.Result.{on_ok_weaker, on_err_weaker}
use Rattle.query_text.proofs.Held.{on_err_of}
use Rattle.race_summary.specs.Values.{choice_values, player_values, roll_values, values}
use Rattle.race_summary.proofs.Printed.{adds_then}
use Rattle.race_summary.proofs.Waiting.{holds_first, holds_more, holds_words, holds_item, holds_all}
use Rattle.race_summary.proofs.Waiting.{holds_written, holds_end, holds_part, items_split}
use Rattle.race_summary.proofs.writing.write.Goals as goal

pub loop-choice-init : goal.loop-choice-init
loop-choice-init g c = record {
  held = holds_first _ c.clear.ensures (adds_then c.push_players.ensures.values
      c.push_roll.ensures.values);
  len = omega (
    arith,
    c.push_players.ensures.len,
    c.push_roll.ensures.len,
    ap length c.clear.ensures,
  );
}

pub returns-in_err-write_waiting-clause-part : goal.returns-in_err-write_waiting-clause-part
returns-in_err-write_waiting-clause-part g c =
    let it = c.args.summary.now in
    let form = c.args.form in
    let f = choice_values form it.mine.position it.roll in
    let i = c.loop-choice.choice-index in
    on_err_of c.from_residual.result (holds_part _ (values form it)
    (flat_map f (drop i it.choices.items)) c.loop-choice.invariant.held
    c.in_err-write_waiting.ensures.part
    (items_split f (player_values form it ++ roll_values it.roll) it.choices.items i))

pub loop-choice-preserved : goal.loop-choice-preserved
loop-choice-preserved g c =
    let it = c.args.summary.now in
    let form = c.args.form in
    let written = c.in_ok-write_waiting.ensures {u = tt} in
    let same = c.as_slice-choice-items.ensures.value in
    record {
      held = holds_item (choice_values form it.mine.position it.roll)
          (player_values form it ++ roll_values it.roll) it.choices.items
          c.loop-choice.choice-index c.choice-item.result
          (omega (arith, c.loop-choice-test.true, ap length same))
          (c.choice-item.is ∙ ap (λ xs. get_or xs c.loop-choice.choice-index c.choice-item.result)
          same)
          (holds_more (holds_written c.loop-choice.invariant.held written.all written.empty)
          c.push_choice.ensures.values);
      len = omega (arith, c.push_choice.ensures.len, ap length written.empty);
    }

pub returns : goal.returns
returns g c =
    let it = c.args.summary.now in
    let form = c.args.form in
    let same = c.as_slice-choice-items.ensures.value in
    let held = holds_words (holds_all (choice_values form it.mine.position it.roll)
    (player_values form it ++ roll_values it.roll) it.choices.items c.loop-choice.choice-index
    (omega (arith, c.loop-choice-test.false, ap length same)) c.loop-choice.invariant.held)
    c.push_end.ensures.values in
    let written = c.write_waiting-2 in
    record {
      all = on_ok_weaker written.result (holds_end _ held) written.ensures.all;
      part = on_err_weaker written.result (λ part. holds_part _ (values form it) [] held part
          (sym (append-nil (values form it)))) written.ensures.part;
    }
