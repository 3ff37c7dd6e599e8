use Rattle.std.proofs.Common.{◌≡◌, ◌<◌, take}
use Rattle.race_model.specs.Prelude.{IsPosition}
use Rattle.home_board.proofs.Written.{joined}
use Rattle.home_board.proofs.text.write_position.Given as goal

-- the counts so far are written
abbrev pub invariant-loop-written : goal.invariant-loop-written
invariant-loop-written l = record {
  text : l.text.bytes ≡ joined (take l.written l.position);
  position : 0 < l.written → IsPosition l.position;
}
