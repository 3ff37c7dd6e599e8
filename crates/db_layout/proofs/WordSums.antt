-- Words of the counts of accepted records, and their sums over the rolls.
use Rattle.std.proofs.Common.{◌≡◌, ◌⊎◌, ⊎_elim, ℕ, zero, suc, cond, ◌+◌, ◌-◌, ◌*◌, ◌/◌, ◌^◌, ◌<◌, ◌≤◌, ◌∷◌, [], eq-eqb}
use Rattle.std.proofs.Common.{List, length, refl, subst, sym, ap, ap₂, ◌∙◌, arith, min}
use Rattle.std.specs.Int.{w64, from_be_bytes}
use Rattle.std.proofs.Math.Nat.{pow-le-pow_right}
use Rattle.std.proofs.lemmas.Bool.{le-leb, lt-leb, ne_eqb}
use Rattle.race_model.specs.Prelude.{pips, roll_index, weighted, most_rolls, at_rank, bytes_at, Parts, board_length}
use Rattle.race_model.specs.Prelude.{board_record, count_place, count_parts, count_at}
use Rattle.race_model.proofs.RightFiles.CountParts.{count-middle}
use Rattle.db_layout.specs.LowerRecords.{AreLocalTo}
use Rattle.db_layout.specs.BoardWords.{word_at, word_of}
use Rattle.db_layout.proofs.ByteParts.{bytes_at-inner}
use Rattle.db_layout.proofs.KnownRecords.{count-most, count-written, told-at_end, told-at_once}
use Rattle.db_layout.proofs.KnownRecords.{most_rolls-none, told-beyond, told-short, told-within}
use Rattle.db_layout.proofs.Weighted.{weighted-by_index, weighted-parts}

-- how many bytes the counts of 1 to 22 throws have in a record of so many
abbrev pub words_length : ℕ → ℕ
words_length length = min length 330 - 66

-- one of two orders
split : (a b : ℕ) → (a ≤ b) ⊎ (b < a)
split a b = grind arith

-- a word that stands in some bytes, and none beyond them
pub word_of-inside : (ws : List ℕ) (i : ℕ) → 8 * i + 8 ≤ length ws →
    word_of ws (suc i) ≡ from_be_bytes w64 (bytes_at ws (8 * i) 8)
unfolding word_of
word_of-inside ws i within =
    ap (λ b. cond b (from_be_bytes w64 (bytes_at ws (8 * i) 8)) 0)
    (le-leb (8 * i + 8) (length ws) within)

pub word_of-beyond : (ws : List ℕ) (i : ℕ) → length ws < 8 * i + 8 → word_of ws (suc i) ≡ 0
unfolding word_of
word_of-beyond ws i beyond =
    ap (λ b. cond b (from_be_bytes w64 (bytes_at ws (8 * i) 8)) 0)
    (lt-leb (8 * i + 8) (length ws) beyond)

-- that of no throw
word_of-none : (ws : List ℕ) → length ws ≡ 0 → word_of ws 0 ≡ 1
unfolding word_of
word_of-none ws none = ap (λ b. cond b 1 0) (eq-eqb (length ws) 0 none)

word_of-some : (ws : List ℕ) → ¬ (length ws ≡ 0) → word_of ws 0 ≡ 0
unfolding word_of
word_of-some ws some = ap (λ b. cond b 1 0) (ne_eqb (length ws) 0 some)

module _ (f : List ℕ) (r : ℕ) where
  -- a word of the record
  word_in : ℕ → ℕ
  word_in place = from_be_bytes w64 (bytes_at (board_record f r) place 8)

  -- a word that stands in the record, and none beyond it
  pub word-within : (i : ℕ) → 74 + 8 * i ≤ board_length (pips (at_rank r)) →
      word_at f r (suc i) ≡ from_be_bytes w64 (bytes_at (board_record f r) (66 + 8 * i) 8)
  unfolding word_at
  word-within i within =
      ap (λ b. cond b (from_be_bytes w64 (bytes_at (board_record f r) (66 + 8 * i) 8)) 0)
      (le-leb (74 + 8 * i) (board_length (pips (at_rank r))) within)

  pub word-beyond : (i : ℕ) → board_length (pips (at_rank r)) < 74 + 8 * i →
      word_at f r (suc i) ≡ 0
  unfolding word_at
  word-beyond i beyond =
      ap (λ b. cond b (from_be_bytes w64 (bytes_at (board_record f r) (66 + 8 * i) 8)) 0)
      (lt-leb (74 + 8 * i) (board_length (pips (at_rank r))) beyond)

  -- to 11 throws a word is a count
  pub word-short : (k : ℕ) → k ≤ 11 → word_at f r k ≡ count_at f r k
  unfolding word_at
  word-short zero few = refl
  word-short (suc k) few = ⊎_elim
      (λ within.
      word-within k (omega (arith, within, few))
      ∙ ap (λ n. from_be_bytes w64 (bytes_at (board_record f r) n 8)) (place few)
      ∙ sym (told-short f r (suc k) (omega arith) within few))
      (λ beyond.
      word-beyond k (omega (arith, beyond, few)) ∙ sym (told-beyond f r (suc k) beyond))
      (split (suc k) (most_rolls (pips (at_rank r))))
    where
      place : suc k ≤ 11 → 66 + 8 * k ≡ count_place (suc k)
      place few = omega (arith, few)

  -- of 12 to 22 throws there are two
  module _ (j : ℕ) (few : j ≤ 10) where
    -- the two words of 12 to 22 throws, where the record tells so many
    module _ (within : 12 + j ≤ most_rolls (pips (at_rank r))) where
      parts : count_parts (board_record f r) (12 + j)
          ≡ record {
            upper = from_be_bytes w64 (bytes_at (board_record f r) (count_place (12 + j)) 8);
            lower = from_be_bytes w64 (bytes_at (board_record f r) (count_place (12 + j) + 8) 8);
          }
      parts = count-middle (board_record f r) (12 + j) (omega arith) (omega (arith, few))

      pub word-upper : word_at f r (suc (11 + 2 * j))
          ≡ (count_parts (board_record f r) (12 + j)).upper
      word-upper =
          word-within (11 + 2 * j) (omega (arith, few, within))
          ∙ ap (λ n. from_be_bytes w64 (bytes_at (board_record f r) n 8)) (place j few)
          ∙ sym (ap (λ (p : Parts). p.upper) parts)
        where
          place : (j : ℕ) → j ≤ 10 → 66 + 8 * (11 + 2 * j) ≡ count_place (12 + j)
          place j few = omega (arith, few)

      pub word-lower : word_at f r (suc (12 + 2 * j))
          ≡ (count_parts (board_record f r) (12 + j)).lower
      word-lower =
          word-within (12 + 2 * j) (omega (arith, few, within))
          ∙ ap (λ n. from_be_bytes w64 (bytes_at (board_record f r) n 8)) (place j few)
          ∙ sym (ap (λ (p : Parts). p.lower) parts)
        where
          place : (j : ℕ) → j ≤ 10 → 66 + 8 * (12 + 2 * j) ≡ count_place (12 + j) + 8
          place j few = omega (arith, few)

    pub word-middle : word_at f r (suc (11 + 2 * j)) * 36 ^ 11 + word_at f r (suc (12 + 2 * j))
        ≡ count_at f r (12 + j)
    word-middle = ⊎_elim
        (λ within.
        ap₂ (λ a b. a * 36 ^ 11 + b) (word-upper within) (word-lower within)
        ∙ sym (told-within f r (12 + j) (omega arith) within))
        (λ beyond.
        ap₂ (λ a b. a * 36 ^ 11 + b) (word-beyond (11 + 2 * j) (omega (arith, few, beyond)))
        (word-beyond (12 + 2 * j) (omega (arith, few, beyond)))
        ∙ sym (told-beyond f r (12 + j) beyond))
        (split (12 + j) (most_rolls (pips (at_rank r))))

  -- the words that stand in the bytes of the counts, and none beyond them
  word-of_bytes : (ws : List ℕ) →
      ws ≡ bytes_at (board_record f r) 66 (words_length (board_length (pips (at_rank r)))) →
      (i : ℕ) → 8 * i + 8 ≤ words_length (board_length (pips (at_rank r))) →
      from_be_bytes w64 (bytes_at ws (8 * i) 8) ≡ word_at f r (suc i)
  word-of_bytes ws are i within =
      ap (λ bs. from_be_bytes w64 (bytes_at bs (8 * i) 8)) are
      ∙ ap (from_be_bytes w64)
      (bytes_at-inner (board_record f r) 66 (words_length (board_length (pips (at_rank r))))
      (8 * i) 8 within)
      ∙ sym (word-within i (omega (arith, within)))

  word-past : (i : ℕ) → i < 33 → words_length (board_length (pips (at_rank r))) < 8 * i + 8 →
      word_at f r (suc i) ≡ 0
  word-past i lt beyond = word-beyond i (omega (arith, lt, beyond))

  -- words stand in the bytes of the counts exactly where the position needs a roll
  words-none : words_length (board_length (pips (at_rank r))) ≡ 0 → pips (at_rank r) ≡ 0
  words-none none = most_rolls-none (pips (at_rank r)) (omega (arith, none))

  words-some : ¬ (words_length (board_length (pips (at_rank r))) ≡ 0) →
      ¬ (pips (at_rank r) ≡ 0)
  words-some some end = some (ap (λ p. words_length (board_length p)) end)

  -- the words in the bytes of the counts are those of the record
  pub word_of-record : (ws : List ℕ) →
      ws ≡ bytes_at (board_record f r) 66 (words_length (board_length (pips (at_rank r)))) →
      length ws ≡ words_length (board_length (pips (at_rank r))) →
      (i : ℕ) → i < 34 → word_of ws i ≡ word_at f r i
  word_of-record ws are long zero lt = ⊎_elim
      (λ none.
      word_of-none ws none
      ∙ sym (word-short 0 (omega arith) ∙ told-at_end f r (words-none (sym long ∙ none))))
      (λ some.
      word_of-some ws some
      ∙ sym (word-short 0 (omega arith)
      ∙ told-at_once f r (words-some (λ none. some (long ∙ none)))))
      (empty (length ws))
    where
      empty : (n : ℕ) → (n ≡ 0) ⊎ (¬ (n ≡ 0))
      empty n = grind arith
  word_of-record ws are long (suc i) lt = ⊎_elim
      (λ within.
      word_of-inside ws i within ∙ word-of_bytes ws are i (omega (arith, within, long)))
      (λ beyond.
      word_of-beyond ws i beyond
      ∙ sym (word-past i (omega (arith, lt)) (omega (arith, beyond, long))))
      (split (8 * i + 8) (length ws))

-- of an accepted record each word is at most 36 ^ 11
module _ (f : List ℕ) (n : ℕ) (few : n ≤ 54264) (local : AreLocalTo f n) (r : ℕ) (lt : r < n) where
  small-short : (k : ℕ) → k ≤ 11 → word_at f r k ≤ 36 ^ 11
  small-short k le =
      let power : 36 ^ k ≤ 36 ^ 11 = pow-le-pow_right (omega arith) le in
      omega (
        arith,
        word-short f r k le,
        count-most f n few local r lt k (omega (arith, le)),
        power,
      )

  small-upper : (j : ℕ) → j ≤ 10 → word_at f r (suc (11 + 2 * j)) ≤ 36 ^ 11
  small-upper j le =
      let le_22 : 12 + j ≤ 22 = omega (arith, le) in
      let power : 36 ^ (12 + j) ≤ 36 ^ 22 = pow-le-pow_right (omega arith) le_22 in
      omega (
        arith,
        word-middle f r j le,
        count-most f n few local r lt (12 + j) (omega (arith, le)),
        power,
      )

  small-lower : (j : ℕ) → j ≤ 10 → word_at f r (suc (12 + 2 * j)) ≤ 36 ^ 11
  small-lower j le = ⊎_elim
      (λ within.
      omega (
        arith,
        word-lower f r j le within,
        count-written f n few local r lt (12 + j) (omega arith) within,
      ))
      (λ beyond. omega (arith, word-beyond f r (12 + 2 * j) (omega (arith, le, beyond))))
      (split (12 + j) (most_rolls (pips (at_rank r))))

  pub word-small : (i : ℕ) → i < 34 → word_at f r i ≤ 36 ^ 11
  word-small i under = ⊎_elim
      (λ short. small-short i short)
      (λ long. ⊎_elim
      (λ is.
      subst (λ k. word_at f r k ≤ 36 ^ 11) (sym is)
      (small-upper ((i - 12) / 2) (omega (arith, under))))
      (λ is.
      subst (λ k. word_at f r k ≤ 36 ^ 11) (sym is)
      (small-lower ((i - 12) / 2) (omega (arith, under))))
      (halves i long))
      (split i 11)
    where
      halves : (i : ℕ) → 11 < i →
          (i ≡ suc (11 + 2 * ((i - 12) / 2))) ⊎ (i ≡ suc (12 + 2 * ((i - 12) / 2)))
      halves i long = grind (arith, long)

-- sums of words are sums of counts
module _ (f : List ℕ) (plays : ℕ → ℕ) where
  pub sums-short : (k : ℕ) → k ≤ 11 →
      weighted (λ v. word_at f (plays (roll_index v)) k)
      ≡ weighted (λ v. count_at f (plays (roll_index v)) k)
  sums-short k few =
      weighted-by_index (λ i. word_at f (plays i) k) (λ i. count_at f (plays i) k)
      (λ i lt. word-short f (plays i) k few)

  pub sums-middle : (k upper lower : ℕ) → 11 < k → k ≤ 22 →
      upper ≡ weighted (λ v. word_at f (plays (roll_index v)) (2 * k - 12)) →
      lower ≡ weighted (λ v. word_at f (plays (roll_index v)) (2 * k - 11)) →
      upper * 36 ^ 11 + lower ≡ weighted (λ v. count_at f (plays (roll_index v)) k)
  sums-middle k upper lower many few up low =
      weighted-parts (λ i. word_at f (plays i) (2 * k - 12))
      (λ i. word_at f (plays i) (2 * k - 11)) (λ i. count_at f (plays i) k) upper lower up low
      (λ i lt.
      ap₂ (λ a b. word_at f (plays i) a * 36 ^ 11 + word_at f (plays i) b)
      (first k many) (second k many)
      ∙ word-middle f (plays i) (k - 12) (omega (arith, few))
      ∙ ap (count_at f (plays i)) (omega (arith, many)))
    where
      first : (k : ℕ) → 11 < k → 2 * k - 12 ≡ suc (11 + 2 * (k - 12))
      first k many = omega (arith, many)

      second : (k : ℕ) → 11 < k → 2 * k - 11 ≡ suc (12 + 2 * (k - 12))
      second k many = omega (arith, many)

-- words of six records, added up: five of them twice, and the last one once
abbrev pub words_of_six : List ℕ → List ℕ → List ℕ → List ℕ → List ℕ → List ℕ → ℕ → ℕ
words_of_six a b c d e f i =
    2 * (word_of a i + word_of b i + word_of c i + word_of d i + word_of e i) + word_of f i

-- the groups of rolls whose words are added up at once
abbrev pub groups : List (List ℕ)
groups =
    (1 ∷ 3 ∷ 4 ∷ 6 ∷ 7 ∷ 0 ∷ [])
    ∷ (8 ∷ 10 ∷ 11 ∷ 12 ∷ 15 ∷ 2 ∷ [])
    ∷ (13 ∷ 16 ∷ 17 ∷ 18 ∷ 19 ∷ 5 ∷ [])
    ∷ []
