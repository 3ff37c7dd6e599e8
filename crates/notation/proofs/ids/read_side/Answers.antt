use Rattle.std.proofs.Common.{sym, ap, ◌∙◌, arith, take}
use Rattle.std.proofs.lemmas.List.{take_more_set}
use Rattle.std.proofs.Math.ListN.{length-set}
use Rattle.notation.specs.Ids.{key}
use Rattle.notation.proofs.Keys.{key_push}
use Rattle.notation.proofs.ids.read_side.Goals as goal

pub loop-place-preserved : goal.loop-place-preserved
loop-place-preserved c =
    let side = c.loop-place.side in
    let place = c.loop-place.place in
    let count = c.read_ones-count.result.0 in
    let above = c.read_ones-count.result.1 in
    record {
      long = simp length-set c.loop-place.invariant.long;
      bits = c.loop-place.invariant.bits
          ∙ ap (key (take place side)) c.read_ones-count.ensures.value
          ∙ sym (key_push (take place side) count above)
          ∙ ap (λ counts. key counts above)
          (sym (take_more_set side place count (omega (arith, c.loop-place.invariant.long))));
      less = omega (arith, c.read_ones-count.ensures.less, c.loop-place.invariant.less);
    }
