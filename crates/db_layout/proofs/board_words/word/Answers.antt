-- The word of the definition.
use Rattle.std.proofs.Common.{◌≡◌, ℕ, suc, ◌+◌, sym, ap, ◌∙◌, arith}
use Rattle.db_layout.specs.BoardWords.{word_of}
use Rattle.db_layout.proofs.WordSums.{word_of-inside}
use Rattle.db_layout.proofs.board_words.word.Goals as goal

-- the index after another
next : (i : ℕ) → suc i ≡ i + 1
next i = omega arith

pub returns : goal.returns
returns c =
    c.read_long.ensures
    ∙ sym (word_of-inside c.args.bytes.now c.args.index c.requires)
    ∙ ap (word_of c.args.bytes.now) (next c.args.index)
