use Rattle.bearoff_cli.specs.FileAnswers.{WritesLevels}
use Rattle.bearoff_cli.proofs.kinds.write_levels.Given as goal

-- the lines of the pip counts so far were written
abbrev pub invariant-loop-pips : goal.invariant-loop-pips
invariant-loop-pips g l = WritesLevels l.kind l.bytes l.pips
    (g.O.Write.contents l.initial.output) (g.O.Write.contents l.output)
