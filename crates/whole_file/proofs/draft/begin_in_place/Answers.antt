-- The place is the one to which the path leads.
use Rattle.std.proofs.Common.{◌∙◌, sym, true≢false}
use Rattle.std.specs.String.{string_bytes}
use Rattle.whole_file.proofs.Known.{on_err}
use Rattle.whole_file.proofs.Stays.{path_stays, begun_beside}
use Rattle.whole_file.proofs.draft.begin_in_place.Goals as goal

pub returns-in_err-draft-clause-stays : goal.returns-in_err-draft-clause-stays
returns-in_err-draft-clause-stays g c =
    let leads = rw c.in-Some.is at c.in_ok-place.ensures.leads in
    let paths = c.can_be_replaced.ensures.paths ∙ c.facts_at.ensures.paths
    ∙ c.find_place.ensures.paths in
    let told = c.can_be_replaced.ensures.stays ∙ c.facts_at.ensures.stays
    ∙ c.find_place.ensures.stays in
    on_err c.from_residual-in_err-draft.result (
      path_stays (g.D.Disk.paths c.args.disk.now) c.args.path.now (string_bytes c.in-Some.place)
          (g.D.Disk.told c.args.disk.now) (g.D.Disk.told c.begin_beside.new.disk) leads
          (rw (paths, told) at c.in_err-draft.ensures.stays),
      rw told at c.in_err-draft.ensures.others,
    )

pub returns-in-Some-2-clause-begun : goal.returns-in-Some-2-clause-begun
returns-in-Some-2-clause-begun g c =
    let leads = rw c.in-Some.is at c.in_ok-place.ensures.leads in
    let paths = c.can_be_replaced.ensures.paths ∙ c.facts_at.ensures.paths
    ∙ c.find_place.ensures.paths in
    let told = c.can_be_replaced.ensures.stays ∙ c.facts_at.ensures.stays
    ∙ c.find_place.ensures.stays in
    begun_beside _ _ (string_bytes c.in-Some.place) _ _ _ _ leads
    (rw (c.in-Some-2.is, paths, told) at c.in_ok-draft.ensures.ready)

-- a file beside one whose name can be given away can be made
pub returns-in-None-clause-fixed : goal.returns-in-None-clause-fixed
returns-in-None-clause-fixed g c first past told =
    let same =
    c.can_be_replaced.ensures.stays ∙ c.facts_at.ensures.stays ∙ c.find_place.ensures.stays ∙ told
    in
    let some = rw c.in-None.is at (c.in_ok-draft.ensures.some first past same) in
    absurd (true≢false (sym some))

pub returns-in-None-clause-still : goal.returns-in-None-clause-still
returns-in-None-clause-still g c first past told =
    let same =
    c.can_be_replaced.ensures.stays ∙ c.facts_at.ensures.stays ∙ c.find_place.ensures.stays ∙ told
    in
    let some = rw c.in-None.is at (c.in_ok-draft.ensures.some first past same) in
    absurd (true≢false (sym some))
