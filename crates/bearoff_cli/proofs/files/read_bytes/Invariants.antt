use Rattle.std.proofs.Common.{◌<◌, ◌≤◌, length, Some}
use Rattle.std.specs.Io.KnownBytes.{Consumes}
use Rattle.db_reader.specs.Telling.{WhereTold}
use Rattle.bearoff_cli.proofs.files.read_bytes.Given as goal

-- what was read so far is kept, and is not too long
abbrev pub invariant-loop-turn : goal.invariant-loop-turn
invariant-loop-turn g l = record {
  read : WhereTold (g.F.Read.remaining l.initial.file)
      (λ left. Consumes (Some left) (g.F.Read.remaining l.file) l.bytes.items);
  long : l._turn ≤ length l.bytes.items;
  short : length l.bytes.items < 20000001;
}
