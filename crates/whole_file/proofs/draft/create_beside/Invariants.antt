-- Nothing has changed so far.
use Rattle.std.proofs.Common.{◌≡◌}
use Rattle.whole_file.proofs.draft.create_beside.Given as goal

abbrev pub invariant-names : goal.invariant-names
invariant-names g l =
    (g.D.Disk.paths l.disk ≡ g.D.Disk.paths l.initial.disk)
    × (g.D.Disk.told l.disk ≡ g.D.Disk.told l.initial.disk)
