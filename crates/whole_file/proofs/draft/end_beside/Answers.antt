-- Where a fault came before, nothing but the new file has changed.
use Rattle.std.proofs.Common.{refl, sym}
use Rattle.whole_file.proofs.Ends.{end_unsettled}
use Rattle.whole_file.proofs.Gone.{gone_removed}
use Rattle.whole_file.proofs.Stays.{stays_gone}
use Rattle.whole_file.proofs.draft.end_beside.Goals as goal

pub returns-in-Err-clause-put : goal.returns-in-Err-clause-put
returns-in-Err-clause-put g c bytes first past known is draft =
    end_unsettled _ c.args.names.now bytes first past _ _ _ c.in-Err.fault draft is refl
    c.discard.ensures.gone

pub returns-in-Err-clause-stays : goal.returns-in-Err-clause-stays
returns-in-Err-clause-stays g c = rw c.in-Err.is (λ first past is draft.
    stays_gone _ _ _ _ draft.apart c.discard.ensures.gone first past is)

pub returns-in-Err-clause-gone : goal.returns-in-Err-clause-gone
returns-in-Err-clause-gone g c first past is draft known = (
  gone_removed _ _ first past _ _ is c.discard.ensures.kept,
  λ own p not_new not_place. stays_gone _ p _ _ (λ e. not_new (sym e)) c.discard.ensures.gone first
      past is,
)

pub returns-in-Ok-clause-gone : goal.returns-in-Ok-clause-gone
returns-in-Ok-clause-gone g c = rw c.in-Ok.is c.put.ensures.gone
