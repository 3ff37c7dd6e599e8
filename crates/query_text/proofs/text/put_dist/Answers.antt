use Rattle.std.proofs.Common.{codes, slice_index, ap, arith}
use Rattle.arrayvec.specs.ArrayString.{array_string_len}
use Rattle.race_model.specs.Prelude.{whole, IsSharePartOver}
use Rattle.query_text.proofs.Parts.{no_parts, one_more_part, some_part, one_more_none, dist_of}
use Rattle.query_text.specs.Texts.{share_text}
use Rattle.query_text.proofs.text.put_dist.Goals.{then-at-gt0, else-at-gt0}
use Rattle.query_text.proofs.text.put_dist.Goals as goal

pub loop-k-init : goal.loop-k-init
loop-k-init c = record {
  parts = rw c.put_dist_word.ensures.text
      (no_parts (λ k. IsSharePartOver whole (slice_index c.args.spread.now k) k) (codes "dist"));
  len = omega (arith, c.put_dist_word.ensures.len);
}

pub loop-k-preserved : goal.loop-k-preserved
loop-k-preserved c =
    let shares = slice_index c.args.spread.now in
    let k = c.loop-k.k in
    elim c.if-at-gt0.branch [
      | then-at-gt0 w ↦ record {
        parts = one_more_part (λ k. IsSharePartOver whole (shares k) k) k (codes "dist")
            c.loop-k.text.bytes c.if-at-gt0.text.bytes (share_text k w.of.result)
            c.loop-k.invariant.parts
            (some_part whole (shares k) k w.of.result
            (omega (arith, c.at.ensures.value, w.if-at-gt0.true))
            (rw (w.of.ensures.numerator, w.of.ensures.denominator) w.share.ensures.value))
            (rw w.text-is w.push_share.ensures.bytes);
        len = omega (
          arith,
          c.loop-k.invariant.len,
          w.push_share.ensures.len,
          ap array_string_len w.text-is,
        );
      }
      | else-at-gt0 w ↦ record {
        parts = rw w.text-is
            (one_more_none whole shares k (codes "dist") c.loop-k.text.bytes
            (omega (arith, c.at.ensures.value, w.if-at-gt0.false)) c.loop-k.invariant.parts);
        len = omega (arith, c.loop-k.invariant.len, ap array_string_len w.text-is);
      }
    ]

pub returns-clause-text : goal.returns-clause-text
returns-clause-text c =
    dist_of whole 22 c.loop-k.k (slice_index c.args.spread.now) c.loop-k.text.bytes
    (omega arith) c.loop-k.invariant.parts
