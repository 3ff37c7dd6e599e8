use Rattle.std.proofs.Common.{refl, sym, ap, subst, ◌∙◌, arith}
use Rattle.race_model.specs.Prelude.{Legal, count_to, at_rank}
use Rattle.race_model.proofs.Ranks.PositionTotals.{count_to-most}
use Rattle.std.proofs.lemmas.Bool.{false≢true}
use Rattle.certificate.proofs.Accepted.{play-of_lent, accepted-play, accepted-under}
use Rattle.certificate.proofs.Databases.{stays_seen}
use Rattle.certificate.proofs.checked.Checked.play.Goals as goal

pub returns-then-recorded-self-clause-stays : goal.returns-then-recorded-self-clause-stays
returns-then-recorded-self-clause-stays g c =
    let ok = c.in_ok-rank.ensures {u = tt} in
    stays_seen c.self.view_is ok.stays.told refl refl (λ file told.
    let x = c.args.position.now in
    let accepted = ok.local file told in
    let lent = c.lend.ensures file (ok.stays.told ∙ told) in
    let read = c.play-recorded.ensures
    ∙ play-of_lent file c.lend.result x c.in_ok-rank.rank lent ok.rank c.args.roll in
    let under = accepted-under file accepted.0 x ok.position accepted.1 c.args.roll in
    let count = ap count_to (c.self.invariant.bound_is file told) in
    absurd (omega (
      arith,
      read,
      under,
      count,
      c.self.inside.header.counted,
      c.if-recorded-self.true,
    )))

pub unwrap-to-requires : goal.unwrap-to-requires
unwrap-to-requires g c =
    let few = count_to-most c.self.inside.header.bound in
    c.unrank.ensures.some.1 (omega (
      arith,
      few,
      c.self.inside.header.counted,
      c.if-recorded-self.false,
    ))

pub returns-in_default-clause-stays : goal.returns-in_default-clause-stays
returns-in_default-clause-stays g c =
    let ok = c.in_ok-rank.ensures {u = tt} in
    stays_seen c.self.view_is ok.stays.told refl refl (λ file told.
    let x = c.args.position.now in
    let accepted = ok.local file told in
    let lent = c.lend.ensures file (ok.stays.told ∙ told) in
    let read = c.play-recorded.ensures
    ∙ play-of_lent file c.lend.result x c.in_ok-rank.rank lent ok.rank c.args.roll in
    let to = (rw c.unwrap-to.ensures at c.unrank.ensures.value) ∙ ap at_rank read in
    let legal = (accepted-play file accepted.0 x ok.position accepted.1 c.args.roll).legal in
    absurd (false≢true ((c.in_default.ensures {u = tt}).legal.1
    (subst (λ y. Legal x c.args.roll y) (sym to) legal))))

pub returns-clause-recorded : goal.returns-clause-recorded
returns-clause-recorded g c file t =
    let told = ap (λ d. d.told) c.self.view_is ∙ t in
    let x = c.args.position.now in
    let ok = c.in_ok-rank.ensures {u = tt} in
    let lent = c.lend.ensures file (ok.stays.told ∙ told) in
    let read = c.play-recorded.ensures
    ∙ play-of_lent file c.lend.result x c.in_ok-rank.rank lent ok.rank c.args.roll in
    (rw c.unwrap-to.ensures at c.unrank.ensures.value) ∙ ap at_rank read

pub returns-clause-legal : goal.returns-clause-legal
returns-clause-legal g c = (c.in-Some.ensures {u = tt}).legal.0 refl
