-- One more event, at the file that stands there.
use Rattle.std.proofs.Common.{◌≡◌, ℕ, List, ◌∷◌, Some, ap, ◌∙◌, rules}
use Rattle.whole_file.specs.Disks.{Settles}
use Rattle.whole_file.specs.Paths.{name_of}
use Rattle.disk_trials.specs.Events.{at}
use Rattle.disk_trials.specs.declared.events.Event.TheVariants.{Settled}
use Rattle.disk_trials.proofs.Happening.{steps, settled}
use Rattle.disk_trials.proofs.disk.MemoryDiskDisk.settle.Goals as goal

pub returns-clause-settled : goal.returns-clause-settled
returns-clause-settled c bytes known =
    let events = c.args.self.now.events.items in
    let place : ℕ × List ℕ = (0, name_of c.args.path.now) in
    let there : at events place ≡ Some c.in-Some.found = grind rules in
    steps (Settles place bytes) (Settled c.in-Some.found c.args.file.bytes) events _
    (c.in_ok-happens.ensures.done
    ∙ ap (λ es. Settled c.in-Some.found c.args.file.bytes ∷ es.items) c.count.ensures.stays)
    (settled c.in-Some.found c.args.file.bytes bytes place events known there)
