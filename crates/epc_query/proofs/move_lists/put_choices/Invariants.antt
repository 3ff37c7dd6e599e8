use Rattle.std.proofs.Common.{◌+◌, ◌*◌, ◌≤◌, codes, slice_index_or}
use Rattle.arrayvec.specs.ArrayString.{array_string_len}
use Rattle.query_text.proofs.Parts.{AreParts}
use Rattle.epc_query.specs.declared.choices.RankedChoice.{RankedChoice}
use Rattle.epc_query.specs.Lists.{IsPartOf}
use Rattle.epc_query.proofs.move_lists.put_choices.Given as goal

-- the parts so far
abbrev pub invariant-loop-choice : goal.invariant-loop-choice
invariant-loop-choice l = record {
  parts : AreParts
      (λ i part. (d : RankedChoice) →
      IsPartOf (slice_index_or l.choices i d) part)
      l.choice-index (codes "moves") l.text.bytes;
  len : array_string_len l.text ≤ 5 + 131 * l.choice-index;
}
