-- What was handed is what is made sure of.
use Rattle.std.proofs.Common.{subst}
use Rattle.whole_file.specs.Disks.{Steps, Settles}
use Rattle.whole_file.specs.Paths.{place_of}
use Rattle.whole_file.proofs.Known.{known_kept}
use Rattle.whole_file.proofs.draft.settle.Goals as goal

pub returns-in-Ok-settle-clause-settled : goal.returns-in-Ok-settle-clause-settled
returns-in-Ok-settle-clause-settled g c bytes known =
    let handed = known_kept _ _ bytes c.in-Ok.ensures.ok known in
    subst (λ path. Steps (Settles (place_of (g.D.Disk.paths c.args.disk.now) path) bytes)
    (g.D.Disk.told c.args.disk.now) (g.D.Disk.told c.settle.new.self))
    c.as_str.ensures.value (c.in-Ok-settle.ensures.settled bytes handed)
