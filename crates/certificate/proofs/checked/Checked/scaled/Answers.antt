use Rattle.std.proofs.Common.{refl, ◌*◌, ◌≤◌, ap, subst, sym, ◌∙◌}
use Rattle.race_model.specs.Prelude.{mean_of, whole, IsLeast}
use Rattle.std.proofs.lemmas.Bool.{false≢true}
use Rattle.certificate.proofs.Accepted.{mean-of_lent, accepted-right, accepted-mean}
use Rattle.certificate.proofs.Databases.{stays_seen}
use Rattle.certificate.proofs.checked.Checked.scaled.Goals as goal

pub returns-in_default-clause-stays : goal.returns-in_default-clause-stays
returns-in_default-clause-stays g c =
    let ok = c.in_ok-rank.ensures {u = tt} in
    stays_seen c.self.view_is ok.stays.told refl refl (λ file told.
    let x = c.args.position.now in
    let accepted = ok.local file told in
    let lent = c.lend.ensures file (ok.stays.told ∙ told) in
    let read = mean-of_lent file c.lend.result x c.in_ok-rank.rank lent ok.rank in
    let small : mean_of c.lend.result ≤ 22 * whole = rw read
    (accepted-mean file accepted.0 x ok.position accepted.1) in
    absurd (false≢true ((c.in_default.ensures {u = tt}).some.1 small)))

pub returns-clause-least : goal.returns-clause-least
returns-clause-least g c file t =
    let told = ap (λ d. d.told) c.self.view_is ∙ t in
    let x = c.args.position.now in
    let ok = c.in_ok-rank.ensures {u = tt} in
    let accepted = ok.local file told in
    let lent = c.lend.ensures file (ok.stays.told ∙ told) in
    let read = mean-of_lent file c.lend.result x c.in_ok-rank.rank lent ok.rank in
    subst (IsLeast x) (sym ((c.in-Some.ensures {u = tt}).value ∙ read))
    (accepted-right file accepted.0 x ok.position accepted.1).least

pub returns-clause-recorded : goal.returns-clause-recorded
returns-clause-recorded g c file t =
    let told = ap (λ d. d.told) c.self.view_is ∙ t in
    let ok = c.in_ok-rank.ensures {u = tt} in
    let lent = c.lend.ensures file (ok.stays.told ∙ told) in
    (c.in-Some.ensures {u = tt}).value
    ∙ mean-of_lent file c.lend.result c.args.position.now c.in_ok-rank.rank lent ok.rank
