-- One more event, at a name that no file had.
use Rattle.std.proofs.Common.{◌≡◌, None, false, rules}
use Rattle.disk_trials.specs.Events.{at, mentions}
use Rattle.disk_trials.proofs.Happening.{creates}
use Rattle.whole_file.specs.Paths.{name_of}
use Rattle.disk_trials.proofs.disk.MemoryDiskDisk.create.Goals as goal

pub returns-clause-made : goal.returns-clause-made
returns-clause-made c =
    let events = c.args.self.now.events.items in
    let named = rw (c.count.ensures.stays, c.name_of-name.ensures) at c.in_ok-name.ensures.done in
    let free : at events (0, name_of c.args.path.now) ≡ None = grind rules in
    let fresh : mentions events c.len-number.result ≡ false = grind rules in
    (creates (name_of c.args.path.now) c.len-number.result events _ named free fresh, grind rules)
