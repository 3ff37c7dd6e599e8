-- The shares add up to the whole, as was known or tested.
use Rattle.std.proofs.Common.{◌≡◌, sum, ap, ◌∙◌}
use Rattle.race_model.specs.Prelude.{whole}
use Rattle.certificate.specs.RecordNumbers.{shares_of}
use Rattle.certificate.proofs.PlaySums.{told_by-same}
use Rattle.certificate.proofs.play_sums.accepted.Goals.{else-not-is_known-via-then-not-is_known+else-is_none}
use Rattle.certificate.proofs.play_sums.accepted.Goals.{else-not-is_known-via-else-not-is_known}
use Rattle.certificate.proofs.play_sums.accepted.Goals as goal

pub returns-clause-shares : goal.returns-clause-shares
returns-clause-shares c =
    told_by-same c.stored_shares-stored.result c.args.view.now c.stored_shares-stored.ensures

pub invariant_of-result : goal.invariant_of-result
invariant_of-result c =
    let whole-shares : sum (shares_of c.args.view.now) ≡ whole =
    elim c.else-not-is_known.branch [
      | else-not-is_known-via-then-not-is_known+else-is_none w ↦
          w.spread_in.ensures.some.0 (w.if-is_none.ensures {u = tt})
      | else-not-is_known-via-else-not-is_known w ↦ (c.requires w.if-not-is_known.false).shares
    ] in
    record {
      all = ap sum (told_by-same c.stored_shares-stored.result c.args.view.now
          c.stored_shares-stored.ensures)
          ∙ whole-shares;
    }
