-- The words that all of them have, and the rest of each.
use Rattle.std.proofs.Common.{◌≡◌, ⊎_elim, ℕ, zero, suc, ◌+◌, ◌*◌, ◌/◌, ◌<◌, ap, subst, ◌∙◌, arith, get_or-set_same}
use Rattle.std.proofs.Common.{get_or-set_other, length-set, slice_index, slice_set}
use Rattle.std.proofs.lemmas.Bool.{cases_lt}
use Rattle.db_layout.specs.BoardWords.{word_at}
use Rattle.db_layout.proofs.WordSums.{words_of_six}
use Rattle.db_layout.proofs.board_words.add_six.Goals as goal

-- one word more
pub loop-index-preserved : goal.loop-index-preserved
loop-index-preserved c =
    let sums = c.loop-index.sums in
    let index = c.loop-index.index in
    let kept = c.loop-index.invariant in
    let value = slice_index sums (index + 1)
    + (2 * (c.word.result + c.word-in-loop-index.result + c.word-in-loop-index-2.result
    + c.word-in-loop-index-3.result + c.word-in-loop-index-4.result)
    + c.word-in-loop-index-5.result) in
    let other = λ (i : ℕ) (away : ¬ (i ≡ index + 1)).
    get_or-set_other sums (index + 1) i value 0 away in
    record {
      len = length-set sums (index + 1) value ∙ kept.len;
      added = λ i some within. ⊎_elim
          (λ below.
          other i (λ same. omega (arith, below, same))
          ∙ kept.added i some (omega (arith, below)))
          (λ here.
          subst
          (λ k. slice_index (slice_set sums (index + 1) value) k ≡ slice_index c.args.sums.now k
          + words_of_six c.words_in-one.result.now c.words_in-two.result.now
          c.words_in-three.result.now c.words_in-four.result.now c.words_in-five.result.now
          c.words_in-double.result.now k)
          (omega (arith, within, here))
          (get_or-set_same sums (index + 1) value 0
          (omega (
            arith,
            kept.len,
            c.loop-index-test.true,
            c.words_in-one.ensures.few,
            c.min.ensures,
            c.min-2.ensures,
            c.min-3.ensures,
            c.min-least.ensures,
            c.min-common.ensures,
          ))
          ∙ omega (
            arith,
            kept.rest (index + 1) (omega arith),
            c.word.ensures,
            c.word-in-loop-index.ensures,
            c.word-in-loop-index-2.ensures,
            c.word-in-loop-index-3.ensures,
            c.word-in-loop-index-4.ensures,
            c.word-in-loop-index-5.ensures,
          )))
          (cases_lt i (index + 1));
      first = other 0 (λ same. omega (arith, same)) ∙ kept.first;
      rest = λ i past.
          other i (λ same. omega (arith, past, same)) ∙ kept.rest i (omega (arith, past));
    }

pub add-requires-5-clause-room : goal.add-requires-5-clause-room
add-requires-5-clause-room c i past lt =
    omega (
      arith,
      c.requires.room i lt,
      c.loop-index.invariant.rest i (omega (arith, past, c.loop-index.auto.index-end)),
      c.add.ensures.added i past lt,
      c.add-2.ensures.added i past lt,
      c.add-3.ensures.added i past lt,
      c.add-4.ensures.added i past lt,
      c.words_in-one.ensures.small i lt,
      c.words_in-two.ensures.small i lt,
      c.words_in-three.ensures.small i lt,
      c.words_in-four.ensures.small i lt,
      c.words_in-five.ensures.small i lt,
    )

pub add-requires-6-clause-room : goal.add-requires-6-clause-room
add-requires-6-clause-room c i past lt =
    omega (
      arith,
      c.requires.room i lt,
      c.loop-index.invariant.rest i (omega (arith, past, c.loop-index.auto.index-end)),
      c.add.ensures.added i past lt,
      c.add-2.ensures.added i past lt,
      c.add-3.ensures.added i past lt,
      c.add-4.ensures.added i past lt,
      c.add-5.ensures.added i past lt,
      c.words_in-one.ensures.small i lt,
      c.words_in-two.ensures.small i lt,
      c.words_in-three.ensures.small i lt,
      c.words_in-four.ensures.small i lt,
      c.words_in-five.ensures.small i lt,
      c.words_in-double.ensures.small i lt,
    )

-- each sum has the words of all six
sums_are : (c : goal.After-add-6) (i : ℕ) → i < 34 → slice_index c.add-6.new.sums i
    ≡ slice_index c.args.sums.now i
    + words_of_six c.words_in-one.result.now c.words_in-two.result.now c.words_in-three.result.now
    c.words_in-four.result.now c.words_in-five.result.now c.words_in-double.result.now i
sums_are c zero lt =
    omega (
      arith,
      c.loop-index.invariant.first,
      c.add.ensures.start,
      c.add-2.ensures.start,
      c.add-3.ensures.start,
      c.add-4.ensures.start,
      c.add-5.ensures.start,
      c.add-6.ensures.start,
    )
sums_are c (suc j) lt = ⊎_elim
    (λ past.
    omega (
      arith,
      c.loop-index.invariant.rest (suc j) (omega (arith, past, c.loop-index.auto.index-end)),
      c.add.ensures.added (suc j) past lt,
      c.add-2.ensures.added (suc j) past lt,
      c.add-3.ensures.added (suc j) past lt,
      c.add-4.ensures.added (suc j) past lt,
      c.add-5.ensures.added (suc j) past lt,
      c.add-6.ensures.added (suc j) past lt,
    ))
    (λ within.
    let some : 0 < suc j = omega arith in
    omega (
      arith,
      c.loop-index.invariant.added (suc j) some (omega (arith, within, c.loop-index-test.false)),
      c.add.ensures.kept (suc j) some within,
      c.add-2.ensures.kept (suc j) some within,
      c.add-3.ensures.kept (suc j) some within,
      c.add-4.ensures.kept (suc j) some within,
      c.add-5.ensures.kept (suc j) some within,
      c.add-6.ensures.kept (suc j) some within,
    ))
    (cases_lt (c.min-common.result / 8) (suc j))

pub returns-clause-added : goal.returns-clause-added
returns-clause-added c i lt =
    let at : ℕ → ℕ = λ j. word_at c.args.lower.now.bytes (slice_index c.args.plays.now j) i in
    omega (
      arith,
      sums_are c i lt,
      c.words_in-one.ensures.words i lt ∙ ap at c.from.ensures,
      c.words_in-two.ensures.words i lt ∙ ap at c.from-2.ensures,
      c.words_in-three.ensures.words i lt ∙ ap at c.from-3.ensures,
      c.words_in-four.ensures.words i lt ∙ ap at c.from-4.ensures,
      c.words_in-five.ensures.words i lt ∙ ap at c.from-5.ensures,
      c.words_in-double.ensures.words i lt ∙ ap at c.from-6.ensures,
    )

pub returns-clause-most : goal.returns-clause-most
returns-clause-most c i lt =
    omega (
      arith,
      sums_are c i lt,
      c.words_in-one.ensures.small i lt,
      c.words_in-two.ensures.small i lt,
      c.words_in-three.ensures.small i lt,
      c.words_in-four.ensures.small i lt,
      c.words_in-five.ensures.small i lt,
      c.words_in-double.ensures.small i lt,
    )
