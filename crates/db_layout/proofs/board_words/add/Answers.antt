-- The words so far, and none beyond the bytes.
use mir.Val.{bool_byte}
use Rattle.std.proofs.Common.{◌≡◌, ⊎_elim, ℕ, zero, suc, ◌+◌, ◌*◌, ◌/◌, ◌<◌, ◌≤◌, List, length, refl, ap}
use Rattle.std.proofs.Common.{get_or-set_same, get_or-set_other, Bool, true, false, cond, length-set, ◌∙◌, arith}
use Rattle.std.proofs.Common.{slice_index}
use Rattle.std.proofs.lemmas.Bool.{cases_lt}
use Rattle.db_layout.specs.BoardWords.{word_of}
use Rattle.db_layout.proofs.WordSums.{word_of-beyond}
use Rattle.db_layout.proofs.board_words.add.Goals as goal

-- a test as a number
as_number : (b : Bool) → bool_byte b ≡ cond b 1 0
as_number true = refl
as_number false = refl

-- beyond the bytes nothing is added
beyond : (ws : List ℕ) (times index now sum : ℕ) → length ws / 8 ≤ index → now ≡ sum →
    (i : ℕ) → index < i → now ≡ sum + times * word_of ws i
beyond ws times index now sum end same zero past = absurd (omega (arith, past))
beyond ws times index now sum end same (suc i) past =
    rw (word_of-beyond ws i (omega (arith, past, end))) (omega (arith, same))

pub loop-index-init : goal.loop-index-init
unfolding word_of
loop-index-init c =
    let value = slice_index c.args.sums.now 0 + c.args.times * c.from.result in
    let other = λ (i : ℕ) (some : 0 < i).
    get_or-set_other c.args.sums.now 0 i value 0 (omega (arith, some)) in
    record {
      len = length-set c.args.sums.now 0 value ∙ c.told-sums;
      from = omega arith;
      start =
          get_or-set_same c.args.sums.now 0 value 0 (omega (arith, c.told-sums))
          ∙ ap (λ n. slice_index c.args.sums.now 0 + c.args.times * n)
          (c.from.ensures ∙ as_number c.is_empty.result ∙ ap (λ b. cond b 1 0) c.is_empty.ensures);
      added = λ i past within. absurd (omega (arith, past, within));
      kept = λ i some within. other i some;
      rest = λ i past. other i (omega (arith, past));
    }

pub returns-clause-added : goal.returns-clause-added
returns-clause-added c i past lt = ⊎_elim
    (λ after.
    beyond c.args.words.now c.args.times c.loop-index.index (slice_index c.loop-index.sums i)
    (slice_index c.args.sums.now i) c.loop-index-test.false
    (c.loop-index.invariant.rest i after) i after)
    (λ within. c.loop-index.invariant.added i past within)
    (cases_lt c.loop-index.index i)
