-- One link more was followed.
use Rattle.std.proofs.Common.{suc, Some, add-one, ap, ap₂, ◌∙◌, subst, sym}
use Rattle.std.specs.String.{string_bytes}
use Rattle.whole_file.specs.Calls.{AnswersLink}
use Rattle.whole_file.specs.Paths.{LeadsBy, linked}
use Rattle.whole_file.proofs.Links.{leads_more}
use Rattle.whole_file.proofs.draft.find_place.Goals as goal

pub links-preserved : goal.links-preserved
links-preserved g c =
    let inv = c.links.invariant in
    let paths = g.D.Disk.paths c.args.disk.now in (
      c.link.ensures.paths ∙ inv.0,
      c.link.ensures.stays ∙ inv.1,
      λ moments told.
          let before = inv.2 moments told in
          let answer = rw (inv.0, c.as_str-in-links.ensures.value) at
          (c.in-Ok-To.ensures.link moments (inv.1 ∙ told)) in
          let link = subst (AnswersLink (paths.link (string_bytes c.links.place)))
          c.in-Ok-To.field-0-is
          answer in
          rw add-one (subst (LeadsBy (suc c.links._followed) paths c.args.path.now)
          (sym (c.in_ok-place-in-Ok-To.ensures
          ∙ ap₂ linked c.as_str-in-Ok-To.ensures.value c.as_str-in-Ok-To-2.ensures.value))
          (leads_more c.links._followed paths c.args.path.now (string_bytes c.links.place) _ before
          (link ∙ ap (λ target. Some (string_bytes target)) (sym c.in-Ok-To.target-is)))),
    )
