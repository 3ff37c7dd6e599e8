use Rattle.std.proofs.Common.{◌≡◌, map, take}
use Rattle.std.specs.String.{string_bytes}
use Rattle.command_line.specs.Asked.{as_input}
use Rattle.command_line.proofs.commands.ended.Given as goal

-- the lines so far were added
abbrev pub invariant-loop-line : goal.invariant-loop-line
invariant-loop-line l =
    string_bytes l.text ≡ as_input (map (λ line. line.now) (take l.line-index l.lines))
