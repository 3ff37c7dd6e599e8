use Rattle.std.proofs.Common.{length}
use Rattle.disk_trials.proofs.events.+may_leave.Given as goal

abbrev pub decreases-may_leave : goal.decreases-may_leave
decreases-may_leave l = length l.events.now
