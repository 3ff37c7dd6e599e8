-- The lines so far were answered by a help.
use Rattle.std.proofs.Common.{ℕ, List}
use Rattle.std.specs.Io.KnownBytes.{Consumes}
use Rattle.bearoff_cli.specs.TypedLines.{AreHelps}
use Rattle.bearoff_cli.proofs.prompt.PromptedRead.read.Given as goal

abbrev pub invariant-loop-help : goal.invariant-loop-help
invariant-loop-help g l = (helps : List ℕ) × AreHelps l._help helps
    × Consumes (g.I.Read.remaining l.fn.self.input.now) (g.I.Read.remaining l.self.1.0.now) helps
