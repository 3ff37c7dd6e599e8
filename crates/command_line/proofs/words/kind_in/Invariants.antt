use Rattle.std.proofs.Common.{length, map, ◌≡◌}
use Rattle.command_line.specs.Asked.{kind_in}
use Rattle.command_line.proofs.words.kind_in.Given as goal

-- the words that are left speak of the same kind of file as all do
abbrev pub invariant-loop-word : goal.invariant-loop-word
invariant-loop-word g l = kind_in (map g.S.AsStr.text l.words)
    ≡ kind_in (map g.S.AsStr.text l.rest)

abbrev pub decreases-loop-word : goal.decreases-loop-word
decreases-loop-word g l = length l.rest
