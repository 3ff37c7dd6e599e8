use Rattle.std.proofs.Common.{take}
use Rattle.race_model.specs.Prelude.{HasNoFeed}
use Rattle.epc_query.proofs.lines.first_feed.Given as goal

-- no line feed stands before this place
abbrev pub invariant-loop-place : goal.invariant-loop-place
invariant-loop-place l = HasNoFeed (take l.place l.bytes)
