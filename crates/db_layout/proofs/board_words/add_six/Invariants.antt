use Rattle.std.proofs.Common.{◌≡◌, ℕ, ◌+◌, ◌<◌, ◌≤◌, length, slice_index}
use Rattle.db_layout.proofs.WordSums.{words_of_six}
use Rattle.db_layout.proofs.board_words.add_six.Given as goal

-- the sums of the first words have theirs, and the others not yet
abbrev pub invariant-loop-index : goal.invariant-loop-index
invariant-loop-index l = record {
  len : length l.sums ≡ 34;
  added : (i : ℕ) → 0 < i → i ≤ l.index → slice_index l.sums i
      ≡ slice_index l.fn.sums i + words_of_six l.one l.two l.three l.four l.five l.double i;
  first : slice_index l.sums 0 ≡ slice_index l.fn.sums 0;
  rest : (i : ℕ) → l.index < i → slice_index l.sums i ≡ slice_index l.fn.sums i;
}
