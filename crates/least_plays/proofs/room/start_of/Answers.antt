-- The nine numbers by their places.
use Rattle.std.proofs.Common.{refl}
use Rattle.least_plays.specs.Known.{start_of}
use Rattle.least_plays.proofs.room.start_of.Goals as goal

pub returns : goal.returns
unfolding start_of
returns c = refl
