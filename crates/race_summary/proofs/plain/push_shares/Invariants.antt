use Rattle.std.proofs.Common.{◌+◌, ◌*◌, ◌≤◌}
use Rattle.arrayvec.specs.ArrayString.{array_string_len}
use Rattle.race_summary.specs.Printed.{below, Adds}
use Rattle.race_summary.specs.Values.{share_row}
use Rattle.race_summary.proofs.plain.push_shares.Given as goal

-- the rows of the shares so far were added
abbrev pub invariant-loop-rolls : goal.invariant-loop-rolls
invariant-loop-rolls l = record {
  values : Adds (below (share_row l.summary) l.rolls) l.initial.text.bytes l.text.bytes;
  len : array_string_len l.text ≤ array_string_len l.initial.text + 200 * l.rolls;
}
