-- The next rank is the one of the loop.
use Rattle.std.proofs.Common.{slice_index}
use Rattle.least_plays.specs.Known.{Knows}
use Rattle.unit_tests.proofs.least.plays_to_8_pips.Given as goal

-- what is known so far
abbrev pub invariant-loop-rank : goal.invariant-loop-rank
invariant-loop-rank g l = Knows (slice_index l.table.means) l.known l.rank
