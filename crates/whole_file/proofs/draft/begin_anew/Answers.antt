-- The place is the one to which the path leads.
use Rattle.std.proofs.Common.{◌∙◌}
use Rattle.std.specs.String.{string_bytes}
use Rattle.whole_file.proofs.Stays.{path_stays, begun_made, stays_dropped, tidy_dropped}
use Rattle.whole_file.proofs.draft.begin_anew.Goals as goal

pub returns-in-Ok-clause-begun : goal.returns-in-Ok-clause-begun
returns-in-Ok-clause-begun g c =
    let leads = rw c.in-Some.is at c.in_ok-place.ensures.leads in
    let made = rw (c.in-Some-2.is, c.find_place.ensures.paths, c.find_place.ensures.stays) at
    c.in_ok-file.ensures.ready in
    begun_made _ _ (string_bytes c.in-Some.place) c.in-Some-2.names _ _ _ _ _ _ leads
    made.0 made.1 c.in-Ok.ensures.holds c.in-Ok.ensures.names c.in-Ok.ensures.same

pub returns-in-Err-clause-stays : goal.returns-in-Err-clause-stays
returns-in-Err-clause-stays g c =
    let leads = rw c.in-Some.is at c.in_ok-place.ensures.leads in
    let made = rw (c.in-Some-2.is, c.find_place.ensures.paths, c.find_place.ensures.stays) at
    c.in_ok-file.ensures.ready in
    let same = c.create_beside.ensures.paths ∙ c.find_place.ensures.paths in
    let gone = rw same at c.in-Err.ensures.gone in (
      path_stays _ _ (string_bytes c.in-Some.place) _ _ leads
          (stays_dropped _ c.in-Some-2.names (string_bytes c.in-Some.place) _ _ _ _ made.0 made.1
          gone),
      tidy_dropped _ c.in-Some-2.names _ _ _ _ _ made.1 gone (rw same at c.in-Err.ensures.kept),
    )
