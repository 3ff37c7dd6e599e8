use Rattle.std.proofs.Common.{length}
use Rattle.disk_trials.proofs.events.+sure.Given as goal

abbrev pub decreases-sure : goal.decreases-sure
decreases-sure l = length l.events.now
