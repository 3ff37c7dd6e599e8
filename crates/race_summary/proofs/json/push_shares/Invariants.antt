use Rattle.std.proofs.Common.{◌+◌, ◌*◌, ◌≤◌}
use Rattle.arrayvec.specs.ArrayString.{array_string_len}
use Rattle.race_summary.specs.Printed.{below, Adds}
use Rattle.race_summary.specs.Values.{share_values}
use Rattle.race_summary.proofs.json.push_shares.Given as goal

-- the shares so far were added
abbrev pub invariant-loop-k : goal.invariant-loop-k
invariant-loop-k l = record {
  values : Adds (below (share_values l.side) l.k) l.initial.text.bytes l.text.bytes;
  len : array_string_len l.text ≤ array_string_len l.initial.text + 222 * l.k;
}
