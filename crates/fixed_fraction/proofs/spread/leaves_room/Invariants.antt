use Rattle.std.proofs.Common.{◌≡◌, take, length, get_or, sum, All}
use Rattle.race_model.specs.Prelude.{whole}
use Rattle.fixed_fraction.proofs.spread.leaves_room.Given as goal

-- the parts so far have no share at 22 rolls
abbrev pub invariant-loop-spread : goal.invariant-loop-spread
invariant-loop-spread l = record {
  room : All (λ part. get_or part.1 22 0 ≡ 0) (take l.spread-index l.parts);
  wholes : All (λ part. (sum part.1 ≡ whole) × (length part.1 ≡ 23)) (take l.spread-index l.parts);
}
