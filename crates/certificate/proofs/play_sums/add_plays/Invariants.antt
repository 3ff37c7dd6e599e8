use Rattle.std.proofs.Common.{◌≡◌, ℕ, ◌<◌, [], length, map, get_or, slice_index, slice_index_or}
use Rattle.race_model.specs.Prelude.{record_at, mean_at}
use Rattle.db_reader.specs.Telling.{WhereTold}
use Rattle.certificate.specs.PlaySums.{told_by}
use Rattle.certificate.specs.RecordNumbers.{shares_of}
use Rattle.certificate.specs.declared.play_sums.AcceptedShares.{AcceptedShares}
use Rattle.certificate.proofs.play_sums.add_plays.Given as goal

-- what the rolls so far lead to
abbrev pub invariant-loop-index : goal.invariant-loop-index
invariant-loop-index g l = record {
  means_len : length l.means ≡ 21;
  shares_len : length l.shares ≡ 21;
  means_are : WhereTold (g.T.Table.tells l.table) (λ file. (j : ℕ) → j < l.index
      → get_or l.means j 0 ≡ mean_at file (slice_index l.plays j));
  shares_are : WhereTold (g.T.Table.tells l.table) (λ file. (j : ℕ) → j < l.index
      → slice_index_or (map (λ (one : AcceptedShares). told_by one.stored) l.shares) j []
      ≡ shares_of (record_at file (slice_index l.plays j)));
}
