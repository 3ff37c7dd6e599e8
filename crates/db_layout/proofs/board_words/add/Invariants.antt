use Rattle.std.proofs.Common.{◌≡◌, ℕ, ◌+◌, ◌*◌, ◌<◌, ◌≤◌, length, slice_index}
use Rattle.db_layout.specs.BoardWords.{word_of}
use Rattle.db_layout.proofs.board_words.add.Given as goal

-- the sums of the words so far have theirs, and the others not yet
abbrev pub invariant-loop-index : goal.invariant-loop-index
invariant-loop-index l = record {
  len : length l.sums ≡ 34;
  from : l.fn.first ≤ l.index;
  start : slice_index l.sums 0 ≡ slice_index l.fn.sums 0 + l.times * word_of l.words 0;
  added : (i : ℕ) → l.fn.first < i → i ≤ l.index → slice_index l.sums i
      ≡ slice_index l.fn.sums i + l.times * word_of l.words i;
  kept : (i : ℕ) → 0 < i → i ≤ l.fn.first → slice_index l.sums i ≡ slice_index l.fn.sums i;
  rest : (i : ℕ) → l.index < i → slice_index l.sums i ≡ slice_index l.fn.sums i;
}
