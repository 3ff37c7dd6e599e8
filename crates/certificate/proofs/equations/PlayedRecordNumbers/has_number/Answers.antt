-- A count that is told is tested by the plays, and any other one holds.
use Rattle.std.proofs.Common.{◌≤◌, ◌<◌, refl, arith, rules}
use Rattle.race_model.specs.Prelude.{IsFinished, pips, most_rolls}
use Rattle.certificate.proofs.BoardNumberTests.{untold-holds, told-unfinished, below-are, count-is}
use Rattle.certificate.proofs.equations.PlayedRecordNumbers.has_number.Goals.{Else-k-self}
use Rattle.certificate.proofs.equations.PlayedRecordNumbers.has_number.Goals.{then-k-eq0-via-then-k-eq0}
use Rattle.certificate.proofs.equations.PlayedRecordNumbers.has_number.Goals.{then-k-eq0-via-else-k-eq0+then-k-self}
use Rattle.certificate.proofs.equations.PlayedRecordNumbers.has_number.Goals as goal

pub returns-then-k-eq0 : goal.returns-then-k-eq0
returns-then-k-eq0 c =
    let beyond : 1 ≤ c.args.k → most_rolls (pips c.args.self.now.position.now) < c.args.k =
    λ some. elim c.then-k-eq0.branch [
      | then-k-eq0-via-then-k-eq0 w ↦ absurd (omega (arith, some, w.if-k-eq0.true))
      | then-k-eq0-via-else-k-eq0+then-k-self w ↦
          omega (arith, w.if-k-self.true, c.requires.ready.2)
    ] in
    (λ _. untold-holds c.requires.ready.0 c.args.k c.requires.few beyond, λ _. refl)

-- the count is told
module _ (c : Else-k-self) where
  some : 1 ≤ c.args.k
  some = omega (arith, c.if-k-eq0.false)

  within : c.args.k ≤ most_rolls (pips c.args.self.now.position.now)
  within = omega (arith, c.if-k-self.false, c.requires.ready.2)

  unfinished : ¬ IsFinished c.args.self.now.position.now
  unfinished = told-unfinished c.requires.ready.0 c.args.k some within

pub count_of-count-requires-clause-below : goal.count_of-count-requires-clause-below
count_of-count-requires-clause-below c = below-are c.requires.ready.0 (unfinished c)

pub count_of-count-requires-clause-words : goal.count_of-count-requires-clause-words
count_of-count-requires-clause-words c = c.requires.ready.1 (unfinished c)

pub returns : goal.returns
returns c =
    let here = (goal.at.returns c).Else-k-self in
    let made = c.count_of-count.ensures in
    let is = count-is c.requires.ready.0 (unfinished here) c.args.k c.count_of-count.result.upper
    c.count_of-count.result.lower (some here) (within here) made.value made.one made.lower in
    search rules
