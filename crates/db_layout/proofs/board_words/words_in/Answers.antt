-- The words of the record.
use Rattle.std.proofs.Common.{◌≡◌, ℕ, ◌-◌, ◌<◌, take, drop, ap, ap₂, ◌∙◌, arith, List}
use Rattle.std.proofs.lemmas.Simd.{length-chunk}
use Rattle.race_model.specs.Prelude.{pips, at_rank, bytes_at, board_length}
use Rattle.db_layout.specs.BoardWords.{word_at, word_of}
use Rattle.db_layout.proofs.WordSums.{word-small, word_of-record, words_length}
use Rattle.db_layout.proofs.board_words.words_in.Goals as goal

-- each word is that of the record
words_are : (c : goal.After-result-1) (i : ℕ) → i < 34 →
    word_of (take (c.min.result - 66) (drop 66 c.record-bytes.result.now)) i
    ≡ word_at c.args.lower.now.bytes c.args.rank i
words_are c =
    let count : c.min.result - 66 ≡ words_length (board_length (pips (at_rank c.args.rank))) =
    ap (λ n. n - 66) c.min.ensures ∙ ap words_length c.record-bytes.ensures.len in
    word_of-record c.args.lower.now.bytes c.args.rank
    (take (c.min.result - 66) (drop 66 c.record-bytes.result.now))
    (ap₂ (λ (bs : List ℕ) n. bytes_at bs 66 n) c.record-bytes.ensures.bytes count)
    (length-chunk 66 (c.min.result - 66) c.record-bytes.result.now
    (omega (arith, c.min.ensures, c.record-bytes.ensures.len))
    ∙ count)

pub returns-clause-words : goal.returns-clause-words
returns-clause-words = words_are

pub returns-clause-small : goal.returns-clause-small
returns-clause-small c i lt =
    omega (
      arith,
      words_are c i lt,
      word-small c.args.lower.now.bytes c.args.lower.now.count c.count-count.ensures.few
          c.count-count.ensures.local c.args.rank c.requires i lt,
    )
