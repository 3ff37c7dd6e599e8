-- The row of a share is added exactly if it is seen of one of the players.
use Rattle.std.proofs.Common.{◌∙◌, ap, sym, arith}
use Rattle.arrayvec.specs.ArrayString.{array_string_len}
use Rattle.race_summary.specs.Values.{share_row}
use Rattle.race_summary.proofs.Printed.{adds_below, adds_below_none, adds_if, adds_unless}
use Rattle.race_summary.proofs.plain.push_shares.Goals.{then-has_share, else-has_share}
use Rattle.race_summary.proofs.plain.push_shares.Goals as goal

pub loop-rolls-init : goal.loop-rolls-init
loop-rolls-init c = record { values = adds_below_none _ _; len = omega arith }

pub loop-rolls-preserved : goal.loop-rolls-preserved
loop-rolls-preserved c =
    let rows = share_row c.args.summary.now in
    let k = c.loop-rolls.rolls in
    let before = c.loop-rolls.invariant in
    elim c.if-has_share.branch [
      | then-has_share w ↦ record {
        values = rw w.text-is (adds_below rows k before.values (adds_if
            (sym c.has_share.ensures ∙ w.if-has_share.true) w.push_row.ensures.values));
        len = omega (arith, before.len, w.push_row.ensures.len, ap array_string_len w.text-is);
      }
      | else-has_share w ↦ record {
        values = rw w.text-is (adds_below rows k before.values (adds_unless _ _
            (sym c.has_share.ensures ∙ w.if-has_share.false)));
        len = omega (arith, before.len, ap array_string_len w.text-is);
      }
    ]
