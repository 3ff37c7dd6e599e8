use Rattle.std.proofs.Common.{◌≡◌, length, map, take}
use Rattle.legal_plays.specs.MoveLists.{moves_of}
use Rattle.bearoff_c.specs.ChoiceLists.{AreZerosAfter}
use Rattle.bearoff_c.proofs.calls.plays.listed.Given as goal

-- the moves so far, and zeros after them
abbrev pub invariant-loop-index : goal.invariant-loop-index
invariant-loop-index l = record {
  room : length l.moves ≡ 4;
  zeros : AreZerosAfter l.index l.moves;
  so_far : map (λ m. (m.from, m.to)) (take l.index l.moves) ≡ moves_of (take l.index l.one-items);
}
