-- What was made stands somewhere else.
use Rattle.std.proofs.Common.{◌∙◌, ap, refl}
use Rattle.whole_file.specs.Paths.{folder_of}
use Rattle.whole_file.proofs.Stays.{ready}
use Rattle.whole_file.proofs.draft.create_beside.Goals as goal

pub returns-in-File-clause-ready : goal.returns-in-File-clause-ready
returns-in-File-clause-ready g c =
    let inv = c.names.invariant in
    let paths = inv.0 ∙ c.run_text.ensures.paths in
    let told = inv.1 ∙ c.run_text.ensures.stays in
    let made = rw (
      c.in-File.is,
      paths,
      told,
      c.as_str-in-names-3.ensures.value,
      c.as_str-in-names-4.ensures.value,
    ) at c.in_ok-file.ensures.made in
    let folder = c.in_ok-folder.ensures ∙ ap folder_of c.as_str.ensures.value in
    (refl, ready _ _ _ _ _ folder made.0 made.1 made.2)
