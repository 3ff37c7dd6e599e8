-- One more event.
use Rattle.std.proofs.Common.{◌≡◌, rules}
use Rattle.disk_trials.specs.Events.{at}
use Rattle.disk_trials.proofs.Happening.{renames}
use Rattle.whole_file.specs.Paths.{name_of}
use Rattle.disk_trials.proofs.disk.MemoryDiskDisk.rename.Goals as goal

pub returns-clause-renamed : goal.returns-clause-renamed
returns-clause-renamed c =
    let events = c.args.self.now.events.items in
    let named = rw (c.count.ensures.stays, c.name_of-old.ensures, c.name_of.ensures) at
    c.in_ok-name.ensures.done in
    let there : c.at-file.result ≡ at events (0, name_of c.args.from.now) = grind rules in
    renames (name_of c.args.from.now) (name_of c.args.to.now) c.at-file.result events _ named there
