-- The sum of the counts of one throw fewer has room.
use Rattle.std.proofs.Common.{◌≡◌, ℕ, suc, ◌+◌, ◌-◌, ◌*◌, ◌^◌, ◌<◌, ◌≤◌, ap, sym, subst, arith, ◌∙◌, slice_index}
use Rattle.std.proofs.Math.Nat.{pow-le-pow_right}
use Rattle.race_model.specs.Prelude.{roll_index, weighted, count_at}
use Rattle.db_layout.proofs.KnownRecords.{of_some}
use Rattle.db_layout.proofs.BoardSums.{counts-most}
use Rattle.race_model.proofs.Dice.RollSums.{roll_index-range}
use Rattle.race_model.proofs.Books.Bounded.{weighted-at_most}
use Rattle.db_layout.specs.BoardWords.{word_at}
use Rattle.db_layout.proofs.WordSums.{sums-middle, sums-short, word-small}
use Rattle.db_layout.proofs.board_numbers.count_of.Goals.{After-from-word}
use Rattle.db_layout.proofs.board_numbers.count_of.Goals as goal

-- more throws have more sequences
rise : (k m : ℕ) → k < m → 36 ^ suc k ≤ 36 ^ m
rise k m lt = pow-le-pow_right (omega arith) lt

module _ (c : After-from-word) where
  -- the sum is at most all sequences of one throw more
  most : weighted (λ v. count_at c.args.lower.now.bytes
      (slice_index c.args.plays.now (roll_index v)) c.args.k)
      ≤ 36 ^ suc c.args.k
  most =
      let known = c.count-count.ensures in
      counts-most c.args.lower.now.bytes c.args.lower.now.count known.few known.local
      (slice_index c.args.plays.now)
      c.requires.below
      c.args.k (omega (arith, c.requires.few))

  -- to 11 throws it is one of the words
  short : c.args.k ≤ 11 → 0 + slice_index c.args.words.now c.from-word.result
      ≡ weighted (λ v. count_at c.args.lower.now.bytes
      (slice_index c.args.plays.now (roll_index v)) c.args.k)
  short few =
      alone (slice_index c.args.words.now c.from-word.result)
      ∙ ap (slice_index c.args.words.now) c.from-word.ensures
      ∙ c.requires.words c.args.k (omega (arith, few))
      ∙ sums-short c.args.lower.now.bytes (slice_index c.args.plays.now) c.args.k few
    where
      alone : (n : ℕ) → 0 + n ≡ n
      alone n = omega arith

  -- to 22 throws it has two words
  middle : 11 < c.args.k → c.args.k ≤ 22 →
      slice_index c.args.words.now (2 * c.from-word.result - 12) * 36 ^ 11
      + slice_index c.args.words.now (2 * c.from-word.result - 11)
      ≡ weighted (λ v. count_at c.args.lower.now.bytes
      (slice_index c.args.plays.now (roll_index v)) c.args.k)
  middle many few =
      sums-middle c.args.lower.now.bytes (slice_index c.args.plays.now) c.args.k
      (slice_index c.args.words.now (2 * c.from-word.result - 12))
      (slice_index c.args.words.now (2 * c.from-word.result - 11)) many few
      (ap (λ n. slice_index c.args.words.now (2 * n - 12)) c.from-word.ensures
      ∙ c.requires.words (2 * c.args.k - 12) (omega (arith, few)))
      (ap (λ n. slice_index c.args.words.now (2 * n - 11)) c.from-word.ensures
      ∙ c.requires.words (2 * c.args.k - 11) (omega (arith, few)))

  -- the sum of a word has room for what is carried to it
  room : (i : ℕ) → i < 34 → slice_index c.args.words.now i ≤ 36 * 36 ^ 11
  room i lt =
      let known = c.count-count.ensures in
      let f = c.args.lower.now.bytes in
      let plays = slice_index c.args.plays.now in
      subst (λ n. n ≤ 36 * 36 ^ 11) (sym (c.requires.words i lt))
      (weighted-at_most (λ v. word_at f (plays (roll_index v)) i) (36 ^ 11) (λ v.
      word-small f c.args.lower.now.count known.few known.local (plays (roll_index v))
      (c.requires.below (roll_index v) (roll_index-range v)) i lt))

pub carried-requires-then-k-le22 : goal.carried-requires-then-k-le22
carried-requires-then-k-le22 c =
    let here = (goal.at.carried-requires-then-k-le22 c).After-from-word in
    let word : c.from-word.result ≡ c.args.k = c.from-word.ensures in
    let few : c.args.k ≤ 22 = c.if-k-le22.true in
    omega (
      arith,
      room here (2 * c.from-word.result - 12) (omega (arith, word, few)),
      room here (2 * c.from-word.result - 11) (omega (arith, word, few)),
    )

pub returns-then-k-lt11-clause-value : goal.returns-then-k-lt11-clause-value
returns-then-k-lt11-clause-value c =
    short (goal.at.returns-then-k-lt11-clause-value c).After-from-word
    (omega (arith, c.if-k-lt11.true))

pub returns-then-k-eq11-clause-value : goal.returns-then-k-eq11-clause-value
returns-then-k-eq11-clause-value c =
    c.carried.ensures.value
    ∙ short (goal.at.returns-then-k-eq11-clause-value c).After-from-word
    (omega (arith, c.if-k-eq11.true))

pub returns-then-k-le22-clause-value : goal.returns-then-k-le22-clause-value
returns-then-k-le22-clause-value c =
    c.carried-then-k-le22.ensures.value
    ∙ middle (goal.at.returns-then-k-le22-clause-value c).After-from-word
    (omega (arith, c.if-k-lt11.false, c.if-k-eq11.false)) c.if-k-le22.true

pub returns-then-k-le22-clause-word : goal.returns-then-k-le22-clause-word
returns-then-k-le22-clause-word c few =
    let here = (goal.at.returns-then-k-le22-clause-word c).After-from-word in
    let power = rise c.args.k 22 few in
    omega (
      arith,
      c.carried-then-k-le22.ensures.value,
      middle here (omega (arith, c.if-k-lt11.false, c.if-k-eq11.false)) c.if-k-le22.true,
      most here,
      power,
    )

pub returns-clause-value : goal.returns-clause-value
returns-clause-value c =
    let here = (goal.at.returns-clause-value c).After-from-word in
    let power = rise c.args.k 33 (omega (arith, c.requires.few)) in
    let is_count = c.count.ensures.some.1
    (omega (arith, c.sum_of_long.ensures, most here, power)) in
    c.parts_of_long.ensures.value
    ∙ c.unwrap_or.ensures
    ∙ of_some (λ count. count ≡ c.sum_of_long.result.sum) c.count.result 0 is_count
    c.count.ensures.value
    ∙ c.sum_of_long.ensures
