use Rattle.std.proofs.Common.{[], ◌+◌, ◌≤◌}
use Rattle.arrayvec.specs.ArrayString.{array_string_len}
use Rattle.race_summary.specs.Printed.{Adds}
use Rattle.race_summary.proofs.plain.indent.Given as goal

-- spaces were added
abbrev pub invariant-loop-space : goal.invariant-loop-space
invariant-loop-space l = record {
  values : Adds [] l.initial.text.bytes l.text.bytes;
  len : array_string_len l.text ≤ array_string_len l.initial.text + l.space;
}
