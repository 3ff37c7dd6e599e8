use Rattle.std.proofs.Common.{length}
use Rattle.disk_trials.proofs.events.+mentions.Given as goal

abbrev pub decreases-mentions : goal.decreases-mentions
decreases-mentions l = length l.events.now
