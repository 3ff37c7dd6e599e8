-- A new file that is given back leaves its place as it was.
use Rattle.std.proofs.Common.{◌≡◌, ◌∙◌, ◌∷◌, subst, sym, IsSomeAnd}
use Rattle.std.specs.Io.Buffered.{writer_contents}
use Rattle.std.specs.String.{string_bytes}
use Rattle.whole_file.specs.Drafts.{IsReady}
use Rattle.whole_file.proofs.Stays.{stays_dropped, tidy_dropped, ready_kept}
use Rattle.whole_file.proofs.draft.begin_beside.Goals as goal

pub returns-in-Ok-clause-ready : goal.returns-in-Ok-clause-ready
returns-in-Ok-clause-ready g c =
    let made = rw c.in-Some.is at c.in_ok-file.ensures.ready in
    subst (λ names. IsSomeAnd names (λ names. (string_bytes names.place ≡ string_bytes c.args.place)
    × IsReady (g.D.Disk.paths c.args.disk.now) names
    (writer_contents g.D.File.Write.contents c.in-Ok.draft.writer)
    (g.D.Disk.told c.args.disk.now) (g.D.Disk.told c.drafted.new.disk)))
    (sym c.in-Ok.ensures.names) (
      made.0,
      ready_kept _ c.in-Some.names _ _ _ _ _ made.1 c.in-Ok.ensures.holds
          (c.in-Ok.ensures.same ∙ c.make_like.ensures.stays),
    )

pub returns-in-Err-drafted-clause-stays : goal.returns-in-Err-drafted-clause-stays
returns-in-Err-drafted-clause-stays g c =
    let made = rw c.in-Some.is at c.in_ok-file.ensures.ready in
    stays_dropped _ c.in-Some.names _ _ _ _ _ made.0 made.1
    (rw (c.make_like.ensures.paths ∙ c.create_beside.ensures.paths, c.make_like.ensures.stays) at
    c.in-Err-drafted.ensures.gone)

pub returns-in-Err-drafted-clause-others : goal.returns-in-Err-drafted-clause-others
returns-in-Err-drafted-clause-others g c =
    let made = rw c.in-Some.is at c.in_ok-file.ensures.ready in
    let same = c.make_like.ensures.paths ∙ c.create_beside.ensures.paths in
    tidy_dropped _ c.in-Some.names _ _ _ _ _ made.1
    (rw (same, c.make_like.ensures.stays) at c.in-Err-drafted.ensures.gone)
    (rw (same, c.make_like.ensures.stays) at c.in-Err-drafted.ensures.kept)

pub returns-in-Err-clause-stays : goal.returns-in-Err-clause-stays
returns-in-Err-clause-stays g c =
    let made = rw c.in-Some.is at c.in_ok-file.ensures.ready in
    stays_dropped _ c.in-Some.names _ _ _ _ _ made.0 made.1
    (rw (c.make_like.ensures.paths ∙ c.create_beside.ensures.paths, c.make_like.ensures.stays) at
    c.discard-in-Err.ensures.gone)

pub returns-in-Err-clause-others : goal.returns-in-Err-clause-others
returns-in-Err-clause-others g c =
    let made = rw c.in-Some.is at c.in_ok-file.ensures.ready in
    let same = c.make_like.ensures.paths ∙ c.create_beside.ensures.paths in
    tidy_dropped _ c.in-Some.names _ _ _ _ _ made.1
    (rw (same, c.make_like.ensures.stays) at c.discard-in-Err.ensures.gone)
    (rw (same, c.make_like.ensures.stays) at c.discard-in-Err.ensures.kept)

-- a disk that tells its moments makes each file like another
pub returns-in-Ok-false-clause-some : goal.returns-in-Ok-false-clause-some
returns-in-Ok-false-clause-some g c first past told =
    let made = rw c.in-Some.is at c.in_ok-file.ensures.ready in
    let alone = (made.1 first past told).2 in
    let like = c.in-Ok-false.ensures.like (alone.now ∷ first ∷ past) alone.told_is in
    let test = c.in-Ok-false.field-0-test in
    cc
