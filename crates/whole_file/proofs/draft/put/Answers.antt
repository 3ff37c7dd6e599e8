-- What the last steps leave.
use Rattle.std.proofs.Common.{◌∙◌, inl, subst, sym}
use Rattle.std.specs.String.{string_bytes}
use Rattle.whole_file.proofs.Ends.{end_unsettled, end_unnamed, end_unsure, end_ok}
use Rattle.whole_file.proofs.Gone.{gone_removed, gone_unnamed, gone_named, gone_unsure}
use Rattle.whole_file.proofs.Known.{is_known}
use Rattle.whole_file.proofs.Stays.{goes_on, goes_settled, stays_gone, stays_named, stays_renamed}
use Rattle.whole_file.specs.Disks.{StaysAt}
use Rattle.whole_file.proofs.draft.put.Goals as goal

pub returns-clause-put : goal.returns-clause-put
returns-clause-put g c bytes first past known is draft =
    let gone = rw c.settle.ensures.paths at c.discard-in-Err.ensures.gone in
    end_unsettled _ c.args.names.now bytes first past _ _ _ c.in-Err.fault draft is
    c.in-Err.ensures.failed gone

pub returns-in-Ok-clause-put : goal.returns-in-Ok-clause-put
returns-in-Ok-clause-put g c bytes first past known is draft =
    let same = c.rename.ensures.paths ∙ c.settle.ensures.paths in
    let gone = rw same at c.discard.ensures.gone in
    end_unnamed _ c.args.names.now bytes first past _ _ _ _ c.in-Err-rename.fault draft is
    (c.in-Ok.ensures.settled bytes known) c.in-Err-rename.ensures.failed gone

pub returns-in-Ok-settle_names-clause-put : goal.returns-in-Ok-settle_names-clause-put
returns-in-Ok-settle_names-clause-put g c bytes first past known is draft =
    let same = c.rename.ensures.paths ∙ c.settle.ensures.paths in
    let renamed = rw c.settle.ensures.paths at c.in-Ok-rename.ensures.renamed in
    let settled = rw same at c.in-Ok-settle_names.ensures.settled in
    end_ok _ c.args.names.now bytes first past _ _ _ _ _ c.in-Ok-settle_names.field-0 draft is
    (c.in-Ok.ensures.settled bytes known) renamed settled

pub returns-in-Ok-rename-clause-put : goal.returns-in-Ok-rename-clause-put
returns-in-Ok-rename-clause-put g c bytes first past known is draft =
    let renamed = rw c.settle.ensures.paths at c.in-Ok-rename.ensures.renamed in
    end_unsure _ c.args.names.now bytes first past _ _ _ _ c.in-Err-settle_names.fault draft is
    (c.in-Ok.ensures.settled bytes known) renamed c.in-Err-settle_names.ensures.failed

pub returns-clause-gone : goal.returns-clause-gone
returns-clause-gone g c first past is draft known =
    let same = c.settle.ensures.paths in
    let told = c.in-Err.ensures.failed ∙ is in (
      gone_removed _ _ first past _ _ told (rw same at c.discard-in-Err.ensures.kept),
      λ own p not_new not_place. stays_gone _ p _ _ (λ e. not_new (sym e))
          (rw same at c.discard-in-Err.ensures.gone) first past told,
    )

pub returns-in-Ok-clause-gone : goal.returns-in-Ok-clause-gone
returns-in-Ok-clause-gone g c first past is draft some =
    let same = c.rename.ensures.paths ∙ c.settle.ensures.paths in
    let known = is_known _ some in
    let settled = c.in-Ok.ensures.settled known.0 known.1 in
    let failed = c.in-Err-rename.ensures.failed in (
      gone_unnamed _ known.0 _ first past _ _ _ _ is settled failed
          (rw same at c.discard.ensures.kept),
      λ own p not_new not_place. goes_on p first past _ _
          (goes_settled _ p known.0 first past _ _ (own p not_new) is settled)
          (stays_gone _ p _ _ (λ e. not_new (sym e)) (rw (same, failed) at c.discard.ensures.gone)),
    )

pub returns-in-Ok-settle_names-clause-gone : goal.returns-in-Ok-settle_names-clause-gone
returns-in-Ok-settle_names-clause-gone g c first past is draft some =
    let same = c.rename.ensures.paths ∙ c.settle.ensures.paths in
    let known = is_known _ some in
    let first_settled = c.in-Ok.ensures.settled known.0 known.1 in
    let renamed = rw c.settle.ensures.paths at c.in-Ok-rename.ensures.renamed in
    let settled = rw same at c.in-Ok-settle_names.ensures.settled in
    let paths = g.D.Disk.paths c.args.disk.now in
    let folder = paths.folder (string_bytes c.args.names.now.folder) in (
      inl (gone_named paths folder _ _ known.0 first past _ _ _ _ c.in-Ok-settle_names.field-0
          draft.apart is first_settled renamed settled),
      λ own p not_new not_place. goes_on p first past _ _ (goes_on p first past _ _
          (goes_settled _ p known.0 first past _ _ (own p not_new) is first_settled)
          (stays_renamed _ _ p _ _ not_new not_place renamed))
          (stays_named paths folder p _ _ c.in-Ok-settle_names.field-0 settled),
    )

pub returns-in-Ok-rename-clause-gone : goal.returns-in-Ok-rename-clause-gone
returns-in-Ok-rename-clause-gone g c first past is draft some =
    let known = is_known _ some in
    let settled = c.in-Ok.ensures.settled known.0 known.1 in
    let renamed = rw c.settle.ensures.paths at c.in-Ok-rename.ensures.renamed in
    let failed = c.in-Err-settle_names.ensures.failed in (
      inl (gone_unsure _ _ known.0 first past _ _ _ _ draft.apart is settled renamed failed),
      λ own p not_new not_place. goes_on p first past _ _
          (goes_settled _ p known.0 first past _ _ (own p not_new) is settled)
          (subst (StaysAt p _) (sym failed) (stays_renamed _ _ p _ _ not_new not_place renamed)),
    )
