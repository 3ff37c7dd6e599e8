use Rattle.std.proofs.Common.{◌≡◌, ℕ, ◌+◌, List, [], ◌++◌, length, Option, None, Some, Bor}
use Rattle.std.specs.Io.KnownBytes.{Appends}
use Rattle.bearoff_cli.specs.Shows.{AreShown, parts_of, shown_lines}
use Rattle.bearoff_cli.proofs.show.show_lines.Given as goal

-- the lines that are left
abbrev pub left : Option (Bor (List ℕ)) → List (List ℕ)
left None = []
left (Some bytes) = parts_of bytes.now

-- one more than the bytes that are left, if there is a line
abbrev pub left_bytes : Option (Bor (List ℕ)) → ℕ
left_bytes None = 0
left_bytes (Some bytes) = length bytes.now + 1

-- what is shown of the lines before those that are left was written
abbrev pub invariant-loop-rest : goal.invariant-loop-rest
invariant-loop-rest g l = (done : List (List ℕ)) × (text : List ℕ)
    × AreShown l.opened l.wish.roll l.wish.form done l.is_answered text
    × (shown_lines l.lines ≡ done ++ left l.rest)
    × Appends (g.O.Write.contents l.initial.output) (g.O.Write.contents l.output) text

abbrev pub decreases-loop-rest : goal.decreases-loop-rest
decreases-loop-rest g l = left_bytes l.rest
