use Rattle.std.proofs.Common.{◌+◌, ◌*◌, ◌≤◌, codes, slice_index}
use Rattle.arrayvec.specs.ArrayString.{array_string_len}
use Rattle.race_model.specs.Prelude.{whole, IsSharePartOver}
use Rattle.query_text.proofs.Parts.{AreParts}
use Rattle.query_text.proofs.text.put_dist.Given as goal

-- the parts so far
abbrev pub invariant-loop-k : goal.invariant-loop-k
invariant-loop-k l = record {
  parts : AreParts (λ k. IsSharePartOver whole (slice_index l.spread k) k)
      l.k (codes "dist") l.text.bytes;
  len : array_string_len l.text ≤ 4 + 122 * l.k;
}
