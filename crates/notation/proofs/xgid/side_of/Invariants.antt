use Rattle.std.proofs.Common.{◌≡◌, length, map, take, drop}
use Rattle.notation.specs.Xgids.{checkers_of, seen_by}
use Rattle.notation.proofs.xgid.side_of.Given as goal

-- the places so far
abbrev pub invariant-loop-place : goal.invariant-loop-place
invariant-loop-place l = record {
  long : length l.side ≡ 25;
  each : take l.place l.side
      ≡ map (checkers_of l.player) (take l.place (drop 1 (seen_by l.player l.board)));
}
