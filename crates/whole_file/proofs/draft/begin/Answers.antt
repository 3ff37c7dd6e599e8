-- Each try begins where the last one left the disk as it was.
use Rattle.std.proofs.Common.{◌∙◌, inl, inr, ⊎_elim}
use Rattle.whole_file.proofs.Stays.{begun_later, path_stays_still}
use Rattle.whole_file.proofs.draft.begin.Goals as goal

pub returns-in-Err-clause-stays : goal.returns-in-Err-clause-stays
returns-in-Err-clause-stays g c =
    let inv = c.tries.invariant in
    let left = rw inv.0 at c.in-Err.ensures.stays in (
      λ first past is. left.0 first past (inv.1 first past is ∙ is),
      λ first past is.
          let same = inv.1 first past is in
          ⊎_elim (λ still. inl (still ∙ same)) (λ tidied. inr tidied)
          (left.1 first past (same ∙ is)),
    )

pub returns-clause-stays : goal.returns-clause-stays
returns-clause-stays g c = (
  path_stays_still _ _ _ _ c.tries.invariant.1,
  λ first past is. inl (c.tries.invariant.1 first past is),
)

pub returns-in-Ok-Some-clause-begun : goal.returns-in-Ok-Some-clause-begun
returns-in-Ok-Some-clause-begun g c =
    let inv = c.tries.invariant in
    let begun = rw (c.in-Ok-Some.field-0-is, inv.0) at c.in-Ok-Some.ensures.begun in
    begun_later _ _ c.in-Ok-Some.draft.names _ (g.D.Disk.told c.args.disk.now)
    (g.D.Disk.told c.tries.disk) _ inv.1 begun

pub tries-preserved : goal.tries-preserved
tries-preserved g c =
    let inv = c.tries.invariant in
    let still = rw c.in-Ok-None.field-0-is at c.in-Ok-None.ensures.begun in (
      c.begin_once.ensures.paths ∙ inv.0,
      λ first past is.
          let same = inv.1 first past is in still first past (same ∙ is) ∙ same,
    )
