use Rattle.std.proofs.Common.{ℕ, ◌<◌, slice_index_or}
use Rattle.epc_query.specs.declared.choices.RankedChoice.{RankedChoice}
use Rattle.epc_query.specs.Choices.{ComesFirst}
use Rattle.epc_query.proofs.choices.place_of.Given as goal

-- those so far come before it
abbrev pub invariant-loop-place : goal.invariant-loop-place
invariant-loop-place l = record {
  before : (k : ℕ) (d : RankedChoice) → k < l.place →
      ComesFirst (slice_index_or l.choices k d) l.choice;
}
