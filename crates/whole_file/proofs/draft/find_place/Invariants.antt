-- So many links lead to the path that is looked at.
use Rattle.std.proofs.Common.{◌≡◌, List, Some}
use Rattle.std.specs.String.{string_bytes}
use Rattle.whole_file.specs.Disks.{Moment}
use Rattle.whole_file.specs.Paths.{LeadsBy}
use Rattle.whole_file.proofs.draft.find_place.Given as goal

abbrev pub invariant-links : goal.invariant-links
invariant-links g l =
    (g.D.Disk.paths l.disk ≡ g.D.Disk.paths l.initial.disk)
    × (g.D.Disk.told l.disk ≡ g.D.Disk.told l.initial.disk)
    × ((moments : List Moment) → g.D.Disk.told l.initial.disk ≡ Some moments
    → LeadsBy l._followed (g.D.Disk.paths l.initial.disk) l.path (string_bytes l.place))
