-- The words of one group of plays more, and of one play more.
use Rattle.std.proofs.Common.{◌≡◌, ℕ, zero, suc, ◌+◌, ◌*◌, ◌<◌, List, [], ◌∷◌, sum_by, take, refl, sym, ap, ◌∙◌, arith}
use Rattle.std.proofs.Common.{slice_index, slice_index_or}
use Rattle.std.proofs.lemmas.List.Sums.{sum_by_more}
use Rattle.race_model.specs.Prelude.{roll_index, weighted}
use Rattle.race_model.proofs.Plays.MostPlays.{get_or-zeros}
use Rattle.fixed_fraction.proofs.RollSums.{weighted-by_index}
use Rattle.db_layout.specs.BoardWords.{six, word_at, word_of}
use Rattle.db_layout.proofs.WordSums.{groups}
use Rattle.db_layout.proofs.board_words.word_sums.Goals as goal

-- numbers of all rolls, by their groups
in_groups : (g : ℕ → ℕ) →
    sum_by (λ rolls. six (λ j. g (slice_index rolls j))) groups + sum_by g (9 ∷ 14 ∷ 20 ∷ [])
    ≡ weighted (λ v. g (roll_index v))
in_groups g = omega (arith, weighted-by_index g)

-- one number more
next : (new sum word all so_far more : ℕ) → new ≡ sum + 1 * word → sum ≡ all + so_far →
    more ≡ so_far + word → new ≡ all + more
next new sum word all so_far more added is one = omega (arith, added, is, one)

pub loop-group-init : goal.loop-group-init
loop-group-init c = record {
  len = refl;
  so_far = λ i lt. get_or-zeros 34 i;
  bound = λ i lt. omega (arith, get_or-zeros 34 i);
}

pub loop-group-preserved : goal.loop-group-preserved
loop-group-preserved c =
    let kept = c.loop-group.invariant in
    let at : ℕ → List ℕ → ℕ = λ i rolls. six (λ j.
    word_at c.args.lower.now.bytes (slice_index c.args.plays.now (slice_index rolls j)) i) in
    record {
      len = c.add_six.ensures.len;
      so_far = λ i lt.
          c.add_six.ensures.added i lt
          ∙ ap (λ n. n + at i (slice_index_or groups c.loop-group.group [])) (kept.so_far i lt)
          ∙ sym (sum_by_more (at i) groups c.loop-group.group [] c.loop-group-test.true);
      bound = λ i lt. omega (arith, c.add_six.ensures.most i lt, kept.bound i lt);
    }

-- each sum has the word of one play more
added : (c : goal.After-add) (i : ℕ) → i < 34 → slice_index c.add.new.sums i
    ≡ slice_index c.loop-index.sums i + 1 * word_of c.words_in-words.result.now i
added c zero lt = c.add.ensures.start
added c (suc j) lt = c.add.ensures.added (suc j) (omega arith) lt

pub loop-index-preserved : goal.loop-index-preserved
loop-index-preserved c =
    let kept = c.loop-index.invariant in
    let at : ℕ → ℕ → ℕ = λ i j. word_at c.args.lower.now.bytes (slice_index c.args.plays.now j) i in
    record {
      len = c.add.ensures.len;
      so_far = λ i lt.
          next _ _ _ _ _ _
          (added c i lt
          ∙ ap (λ n. slice_index c.loop-index.sums i + 1 * n)
          (c.words_in-words.ensures.words i lt ∙ ap (at i) c.from.ensures))
          (kept.so_far i lt)
          (sum_by_more (at i) (9 ∷ 14 ∷ 20 ∷ []) c.loop-index.index 0 c.loop-index-test.true);
      bound = λ i lt.
          omega (arith, added c i lt, c.words_in-words.ensures.small i lt, kept.bound i lt);
    }

pub returns-clause-sums : goal.returns-clause-sums
returns-clause-sums c i lt =
    let at : ℕ → ℕ = λ j. word_at c.args.lower.now.bytes (slice_index c.args.plays.now j) i in
    let all : c.loop-index.index ≡ 3 =
    omega (arith, c.loop-index-test.false, c.loop-index.auto.index-end) in
    c.loop-index.invariant.so_far i lt
    ∙ ap (λ n. sum_by (λ rolls. six (λ j. at (slice_index rolls j))) groups
    + sum_by at (take n (9 ∷ 14 ∷ 20 ∷ []))) all
    ∙ in_groups at
