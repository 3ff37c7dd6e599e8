use Rattle.std.proofs.Common.{◌≡◌, ℕ, ◌+◌, ◌*◌, ◌^◌, ◌<◌, ◌≤◌, length, sum_by, take, ◌∷◌, [], slice_index}
use Rattle.db_layout.specs.BoardWords.{six, word_at}
use Rattle.db_layout.proofs.WordSums.{groups}
use Rattle.db_layout.proofs.board_words.word_sums.Given as goal

-- the sums over the groups so far, and how large they are
abbrev pub invariant-loop-group : goal.invariant-loop-group
invariant-loop-group l = record {
  len : length l.sums ≡ 34;
  so_far : (i : ℕ) → i < 34 → slice_index l.sums i
      ≡ sum_by
      (λ rolls. six (λ j. word_at l.lower.bytes (slice_index l.plays (slice_index rolls j)) i))
      (take l.group groups);
  bound : (i : ℕ) → i < 34 → slice_index l.sums i ≤ l.group * 11 * 36 ^ 11;
}

-- the sums over the other doubles so far, and how large they are
abbrev pub invariant-loop-index : goal.invariant-loop-index
invariant-loop-index l = record {
  len : length l.sums ≡ 34;
  so_far : (i : ℕ) → i < 34 → slice_index l.sums i
      ≡ sum_by
      (λ rolls. six (λ j. word_at l.lower.bytes (slice_index l.plays (slice_index rolls j)) i))
      groups
      + sum_by (λ j. word_at l.lower.bytes (slice_index l.plays j) i)
      (take l.index (9 ∷ 14 ∷ 20 ∷ []));
  bound : (i : ℕ) → i < 34 → slice_index l.sums i ≤ (33 + l.index) * 36 ^ 11;
}
