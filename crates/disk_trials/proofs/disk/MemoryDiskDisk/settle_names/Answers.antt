-- One more event.
use Rattle.std.proofs.Common.{◌∷◌, ap, ◌∙◌}
use Rattle.whole_file.specs.Disks.{SettlesNames}
use Rattle.disk_trials.specs.declared.events.Event.TheVariants.{SettledNames}
use Rattle.disk_trials.proofs.Happening.{steps, names_settled}
use Rattle.disk_trials.proofs.disk.MemoryDiskDisk.settle_names.Goals as goal

pub returns-clause-settled : goal.returns-clause-settled
returns-clause-settled c =
    steps (SettlesNames 0) SettledNames c.args.self.now.events.items _
    (c.in_ok-happens.ensures.done ∙ ap (λ es. SettledNames ∷ es.items) c.count.ensures.stays)
    (names_settled c.args.self.now.events.items)
