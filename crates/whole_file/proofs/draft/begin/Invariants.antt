-- The disk has stayed as it was.
use Rattle.std.proofs.Common.{◌≡◌}
use Rattle.whole_file.specs.Disks.{IsStill}
use Rattle.whole_file.proofs.draft.begin.Given as goal

abbrev pub invariant-tries : goal.invariant-tries
invariant-tries g l =
    (g.D.Disk.paths l.disk ≡ g.D.Disk.paths l.initial.disk)
    × IsStill (g.D.Disk.told l.initial.disk) (g.D.Disk.told l.disk)
