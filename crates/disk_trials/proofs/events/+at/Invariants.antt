use Rattle.std.proofs.Common.{length}
use Rattle.disk_trials.proofs.events.+at.Given as goal

abbrev pub decreases-at : goal.decreases-at
decreases-at l = length l.events.now
