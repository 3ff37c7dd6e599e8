use Rattle.std.proofs.Common.{◌≡◌, ◌↔◌, Bool, true, false, ℕ, suc, ◌+◌, ◌*◌, ◌%◌, length, slice_index, refl, sym, ap}
use Rattle.std.proofs.Common.{◌∙◌, arith, rules, Option, Some, None, unwrap_or, IsTrue, IsSome, IfSome}
use Rattle.race_model.specs.Prelude.{IsFinished, pips, roll_at, most_rolls, whole}
use Rattle.race_model.proofs.Strategies.Horizons.{most_rolls-most}
use Rattle.retrograde.proofs.Best.{finished-stays}
use Rattle.retrograde.proofs.Existence.{all-records}
use Rattle.retrograde.proofs.Unique.{record-at_end, plays-held, plays-beyond, mean-exact}
use Rattle.retrograde.proofs.Unique.{shares-exact, no-last, record-before}
use Rattle.retrograde.proofs.pulling.next_record.Goals.{After-mean, After-put_spread-is_exact}
use Rattle.retrograde.proofs.pulling.next_record.Goals as goal

-- what a test that answers no is about doesn't hold
denied : {answer : Bool} {P : Type 0} → (answer ≡ true) ↔ P → answer ≡ false → ¬ P
denied is refused = λ holds. let yes = is.1 holds in cc

pub returns-then-is_finished : goal.returns-then-is_finished
returns-then-is_finished c full =
    let x = c.args.position.now in
    let none : IsFinished x = c.is_finished.ensures.value.0 c.if-is_finished.true in
    let is = c.finished.ensures in
    record-at_end full x c.requires.position c.requires.low none 0 c.args.plays.now
    c.finished.result refl
    (λ i lt.
    let reached = (c.requires.best i lt).reached in
    sym reached.2 ∙ finished-stays x (roll_at i) reached.0 c.requires.position none reached.1)
    c.told-plays (ap (λ xs. slice_index xs 0) is)
    (λ k. ap (λ xs. slice_index xs (suc k)) is ∙ search rules) (ap length is)

pub add_plays-requires : goal.add_plays-requires
add_plays-requires c =
    let x = c.args.position.now in
    let unfinished = denied c.is_finished.ensures.value c.if-is_finished.false in
    let agree = c.requires.lower.means_are all-records in
    let next = c.requires.next in
    let rolls : c.most_rolls.result ≡ most_rolls (pips x) =
    c.most_rolls.ensures ∙ ap most_rolls c.pips.ensures.value in record {
      lower = c.requires.lower;
      made =
          plays-held all-records x c.requires.position c.requires.low unfinished
          c.args.records.now.means.now agree next c.args.plays.now c.told-plays c.requires.best;
      few = omega (arith, rolls, most_rolls-most (pips x) c.requires.low);
      beyond = λ full i k lt le.
          plays-beyond full x c.requires.position c.requires.low unfinished
          c.args.records.now.means.now (c.requires.lower.means_are full) next c.args.plays.now
          c.told-plays c.requires.best i k lt (omega (arith, rolls, le));
    }

-- what is there is not none
never : false ≡ true → ⊥
never e = cc

-- the sum of the means that the plays lead to is exact
has_mean : (c : After-mean) → IsSome c.mean.result
has_mean c =
    let x = c.args.position.now in
    let unfinished = denied c.is_finished.ensures.value c.if-is_finished.false in
    let exact = mean-exact all-records x c.requires.position c.requires.low unfinished
    c.args.records.now.means.now (c.requires.lower.means_are all-records) c.requires.next
    c.args.plays.now c.told-plays c.requires.best in
    c.mean.ensures.some.1 (
      exact.0,
      exact.1.0,
      exact.1.1 ∙ ap (λ n. 36 * whole + n) (sym (c.add_plays.ensures.mean all-records)),
    )

-- the sums of the shares that the plays lead to are exact
has_spread : (c : After-put_spread-is_exact) → IsTrue c.put_spread-is_exact.result
has_spread c =
    let x = c.args.position.now in
    let unfinished = denied c.is_finished.ensures.value c.if-is_finished.false in
    let sums = c.add_plays.ensures.shares all-records in
    let last = no-last all-records x c.requires.position c.requires.low unfinished
    c.args.records.now.means.now (c.requires.lower.means_are all-records) c.requires.next
    c.args.plays.now c.told-plays c.requires.best in
    let exact = shares-exact all-records x c.requires.position c.requires.low unfinished
    c.args.records.now.means.now (c.requires.lower.means_are all-records) c.requires.next
    c.args.plays.now c.told-plays c.requires.best in
    c.put_spread-is_exact.ensures.all.1
    (sums 22 (omega arith) ∙ last, λ k lt. ap (λ n. n % 36) (sums k (omega arith)) ∙ exact k lt)

-- what is there is the number itself
held : (P : ℕ → Type 0) (number : Option ℕ) → IsSome number → IfSome number P →
    P (unwrap_or number 0)
held P (Some n) some is = is
held P None some is = absurd (never some)

pub returns : goal.returns
returns c full =
    let x = c.args.position.now in
    let unfinished = denied c.is_finished.ensures.value c.if-is_finished.false in
    let sums = c.add_plays.ensures in
    let at = goal.at.returns c in
    let put = has_spread at.After-put_spread-is_exact in
    record-before full x c.requires.position c.requires.low unfinished c.args.records.now.means.now
    (c.requires.lower.means_are full) c.requires.next c.args.plays.now c.told-plays c.requires.best
    c.unwrap_or.result c.put_spread-is_exact.new.spread
    (rw c.unwrap_or.ensures
    (held _ c.mean.result (has_mean at.After-mean) c.mean.ensures.value)
    ∙ ap (λ n. 36 * whole + n) (sums.mean full))
    (c.put_spread-is_exact.ensures.start put)
    (λ k lt. c.put_spread-is_exact.ensures.moved put k lt ∙ sums.shares full k (omega arith))
    c.at-start.ensures.len
