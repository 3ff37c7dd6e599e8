-- Another number than the best is right where it is the rank of a result whose mean is no greater.
use Rattle.std.proofs.Common.{◌≡◌, ⊎_elim, ◌<◌, true, false, sym, subst, ◌∙◌, arith, rules}
use Rattle.std.proofs.lemmas.Bool.{false≢true, cases_lt}
use Rattle.race_model.specs.Prelude.{roll_at}
use Rattle.least_plays.specs.Recorded.{IsResult}
use Rattle.least_plays.proofs.RecordedPlays.{best-result, lower_result, least, not_least}
use Rattle.least_plays.proofs.recorded.check_other.Given.{Over}
use Rattle.least_plays.proofs.recorded.check_other.Goals.{Then-not-is_result, Else-not-is_result}
use Rattle.least_plays.proofs.recorded.check_other.Goals as goal

pub returns-then-not-is_result-clause-fault : goal.returns-then-not-is_result-clause-fault
returns-then-not-is_result-clause-fault g c is =
    let no : c.is_result.result ≡ false = search rules in
    let roll : c.unwrap.result ≡ roll_at c.args.index =
    rw c.unwrap.ensures at c.from_index.ensures.value in
    false≢true (sym no ∙ c.is_result.ensures.1
    (subst (λ v. IsResult c.args.position.now v c.args.recorded) (sym roll) is))

-- the rank of a result, and not the best
module _ (g : Over) (c : Else-not-is_result g) where
  best-is : IsResult c.args.position.now (roll_at c.args.index) c.args.best
  best-is =
      best-result c.args.position.now c.requires.position (roll_at c.args.index)
      (g.M.RankedMeans.mean c.args.means.now) c.args.best c.requires.best

  recorded-is : IsResult c.args.position.now (roll_at c.args.index) c.args.recorded
  recorded-is =
      let yes : c.is_result.result ≡ true = search rules in
      subst (λ v. IsResult c.args.position.now v c.args.recorded)
      (rw c.unwrap.ensures at c.from_index.ensures.value) (c.is_result.ensures.0 yes)

  best-below : c.args.best < g.M.RankedMeans.count c.args.means.now
  best-below =
      let low = lower_result c.args.position.now c.requires.position (roll_at c.args.index)
      c.args.best c.args.recorded best-is recorded-is (λ e. c.requires.apart (sym e)) in
      omega (arith, low, c.requires.next)

  recorded-below : c.args.recorded < g.M.RankedMeans.count c.args.means.now
  recorded-below =
      let low = lower_result c.args.position.now c.requires.position (roll_at c.args.index)
      c.args.recorded c.args.best recorded-is best-is c.requires.apart in
      omega (arith, low, c.requires.next)

pub is_less-requires-clause-one : goal.is_less-requires-clause-one
is_less-requires-clause-one g c = best-below g c

pub is_less-requires-clause-other : goal.is_less-requires-clause-other
is_less-requires-clause-other g c = recorded-below g c

pub returns-then-is_less-clause-fault : goal.returns-then-is_less-clause-fault
returns-then-is_less-clause-fault g c =
    let here = (goal.at.returns-then-is_less-clause-fault g c).Else-not-is_result in
    let less = c.is_less.ensures.0 c.if-is_less.true in (
      recorded-is g here,
      not_least c.args.position.now c.requires.position (roll_at c.args.index)
          (g.M.RankedMeans.mean c.args.means.now) c.args.best c.requires.best c.args.recorded
          less,
    )

pub returns-clause-least : goal.returns-clause-least
returns-clause-least g c =
    let here = (goal.at.returns-clause-least g c).Else-not-is_result in
    least c.args.position.now c.requires.position (roll_at c.args.index)
    (g.M.RankedMeans.mean c.args.means.now) c.args.best c.requires.best c.args.recorded
    (recorded-is g here)
    (⊎_elim
    (λ less. absurd (false≢true (sym c.if-is_less.false ∙ c.is_less.ensures.1 less)))
    (λ within. within)
    (cases_lt (g.M.RankedMeans.mean c.args.means.now c.args.best)
    (g.M.RankedMeans.mean c.args.means.now c.args.recorded)))
