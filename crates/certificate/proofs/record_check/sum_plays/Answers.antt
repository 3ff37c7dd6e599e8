-- The sums are those of what is recorded.
use Rattle.std.proofs.Common.{◌≡◌, ⊎_elim, ℕ, ◌<◌, ◌≤◌, List, Some, sym, ap, subst, ◌∙◌, arith, get_or, rules}
use Rattle.std.proofs.lemmas.Bool.{false≢true}
use Rattle.race_model.specs.Prelude.{IsFinished, roll_at, record_at, spread_at}
use Rattle.certificate.specs.PlaySums.{IsAccepted}
use Rattle.certificate.proofs.PlayNumbers.{play-accepted, play-before, play-beyond, sums-are}
use Rattle.certificate.proofs.PlaySums.{passes_or_not}
use Rattle.certificate.proofs.record_check.sum_plays.Given.{Over}
use Rattle.certificate.proofs.record_check.sum_plays.Goals.{After-range_of-first}
use Rattle.certificate.proofs.record_check.sum_plays.Goals as goal

-- the plays of a position that isn't finished, where the table tells its bytes
module _ (g : Over) (c : After-range_of-first g) (file : List ℕ)
    (told : g.T.Table.tells c.load_plays.new.table ≡ Some file) where
  before-told : g.T.Table.tells c.args.table.now ≡ Some file
  before-told = sym (c.in_ok-load_plays.ensures {u = tt}).stays.told ∙ told

  unfinished : ¬ IsFinished c.args.position.now
  unfinished is =
      absurd (false≢true (sym c.if-is_finished.false ∙ c.is_finished.ensures.value.1 is))

  -- each is an accepted record
  accepted : (i : ℕ) → i < 21 → IsAccepted (record_at file (get_or c.args.recorded.now i 0))
  accepted i lt =
      subst (λ r. IsAccepted (record_at file r)) (sym (c.requires.recorded file before-told i lt))
      (play-accepted file c.args.position.now c.requires.position c.requires.short
      (c.requires.lower file before-told) unfinished (roll_at i)
      (c.requires.played file before-told i lt))

  -- with no share outside the range
  none-before : (i k : ℕ) → i < 21 → k < c.range_of-first.result.0
      → spread_at file (get_or c.args.recorded.now i 0) k ≡ 0
  none-before i k lt less = ⊎_elim
      (λ known.
      ap (λ r. spread_at file r k) (c.requires.recorded file before-told i lt)
      ∙ play-before file c.args.position.now c.requires.position c.requires.short
      (c.requires.lower file before-told) unfinished (roll_at i)
      (c.requires.played file before-told i lt) k (c.range_of-first.ensures.before known k less)
      (omega (arith, less, c.range_of-first.ensures.order, c.range_of-first.ensures.few)))
      (λ not. absurd (omega (arith, less, (c.range_of-first.ensures.unknown not).0)))
      (passes_or_not c.is_told-is_known.result)

  none-beyond : (i k : ℕ) → i < 21 → c.range_of-first.result.1 ≤ k → k < 23
      → spread_at file (get_or c.args.recorded.now i 0) k ≡ 0
  none-beyond i k lt more few = ⊎_elim
      (λ known.
      ap (λ r. spread_at file r k) (c.requires.recorded file before-told i lt)
      ∙ play-beyond file c.args.position.now c.requires.position c.requires.short
      (c.requires.lower file before-told) unfinished (roll_at i)
      (c.requires.played file before-told i lt) k
      (omega (arith, more, c.range_of-first.ensures.known known)) few)
      (λ not. absurd (omega (arith, more, few, (c.range_of-first.ensures.unknown not).1)))
      (passes_or_not c.is_told-is_known.result)

pub add_plays-requires-clause-accepted : goal.add_plays-requires-clause-accepted
add_plays-requires-clause-accepted g c =
    accepted g (goal.at.add_plays-requires-clause-accepted g c).After-range_of-first

pub add_plays-requires-clause-before : goal.add_plays-requires-clause-before
add_plays-requires-clause-before g c =
    none-before g (goal.at.add_plays-requires-clause-before g c).After-range_of-first

pub add_plays-requires-clause-beyond : goal.add_plays-requires-clause-beyond
add_plays-requires-clause-beyond g c =
    none-beyond g (goal.at.add_plays-requires-clause-beyond g c).After-range_of-first

pub returns-clause-totals : goal.returns-clause-totals
returns-clause-totals g c file told =
    let here = (goal.at.returns-clause-totals g c).After-range_of-first in
    let now = (c.in_ok-load_plays.ensures {u = tt}).stays.told ∙ told in
    sums-are file c.args.position.now c.args.recorded.now c.add_plays.new.sums
    (unfinished g here file now) (c.requires.recorded file told)
    (c.add_plays.ensures.sums file now (search rules))
