use Rattle.std.proofs.Common.{refl, get_or, ap, ◌∙◌, arith}
use Rattle.certificate.proofs.RecordBytes.{get_or-shares_of}
use Rattle.std.proofs.lemmas.Bool.{false≢true}
use Rattle.certificate.proofs.Accepted.{share-of_lent, total-of_lent, accepted-right, accepted-total}
use Rattle.certificate.proofs.Databases.{stays_seen}
use Rattle.certificate.proofs.checked.Checked.spread.Goals as goal

pub returns-in_default-clause-stays : goal.returns-in_default-clause-stays
returns-in_default-clause-stays g c =
    let ok = c.in_ok-rank.ensures {u = tt} in
    stays_seen c.self.view_is ok.stays.told refl refl (λ file told.
    let x = c.args.position.now in
    let accepted = ok.local file told in
    let lent = c.lend.ensures file (ok.stays.told ∙ told) in
    let read = total-of_lent file c.lend.result x c.in_ok-rank.rank lent ok.rank in
    let whole = read ∙ accepted-total file accepted.0 x ok.position accepted.1 in
    absurd (false≢true ((c.in_default.ensures {u = tt}).some.1 whole)))

pub returns-clause-shares : goal.returns-clause-shares
returns-clause-shares g c file t k few =
    let told = ap (λ d. d.told) c.self.view_is ∙ t in
    let x = c.args.position.now in
    let ok = c.in_ok-rank.ensures {u = tt} in
    let accepted = ok.local file told in
    let lent = c.lend.ensures file (ok.stays.told ∙ told) in
    ap (λ xs. get_or xs k 0) (c.in-Some.ensures {u = tt}).value
    ∙ (get_or-shares_of c.lend.result k (omega arith)
    ∙ (share-of_lent file c.lend.result x c.in_ok-rank.rank lent ok.rank k
    ∙ (accepted-right file accepted.0 x ok.position accepted.1).spread_is k few))

pub returns-clause-recorded : goal.returns-clause-recorded
returns-clause-recorded g c file t k few =
    let told = ap (λ d. d.told) c.self.view_is ∙ t in
    let ok = c.in_ok-rank.ensures {u = tt} in
    let lent = c.lend.ensures file (ok.stays.told ∙ told) in
    ap (λ xs. get_or xs k 0) (c.in-Some.ensures {u = tt}).value
    ∙ (get_or-shares_of c.lend.result k (omega arith)
    ∙ share-of_lent file c.lend.result c.args.position.now c.in_ok-rank.rank lent ok.rank k)
