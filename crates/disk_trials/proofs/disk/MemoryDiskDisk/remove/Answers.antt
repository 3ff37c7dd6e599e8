-- One more event.
use Rattle.disk_trials.proofs.Happening.{removes}
use Rattle.whole_file.specs.Paths.{name_of}
use Rattle.disk_trials.proofs.disk.MemoryDiskDisk.remove.Goals as goal

pub returns-clause-removed : goal.returns-clause-removed
returns-clause-removed c =
    removes (name_of c.args.path.now) c.args.self.now.events.items _
    (rw (c.count.ensures.stays, c.name_of-name.ensures) at c.in_ok-name.ensures.done)
