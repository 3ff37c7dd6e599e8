use Rattle.std.proofs.Common.{◌≡◌, ◌<◌, ◌^◌, length, take}
use Rattle.notation.specs.Ids.{key}
use Rattle.notation.proofs.ids.read_side.Given as goal

-- the counts so far
abbrev pub invariant-loop-place : goal.invariant-loop-place
invariant-loop-place l = record {
  long : length l.side ≡ 25;
  bits : l.bits ≡ key (take l.place l.side) l.rest;
  less : l.rest < 2 ^ 80;
}
