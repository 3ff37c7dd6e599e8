use Rattle.std.proofs.Common.{length, map, ◌≡◌}
use Rattle.command_line.specs.Asked.{is_word}
use Rattle.command_line.proofs.commands.is_word.Given as goal

-- the text is one of the words that are left exactly where it is one of all
abbrev pub invariant-loop-word : goal.invariant-loop-word
invariant-loop-word g l = is_word (map g.S.AsStr.text l.words) l.text
    ≡ is_word (map g.S.AsStr.text l.rest) l.text

abbrev pub decreases-loop-word : goal.decreases-loop-word
decreases-loop-word g l = length l.rest
