use Rattle.std.proofs.Common.{◌≡◌, ℕ, ◌<◌, List, [], length, map, get_or, slice_index, slice_index_or}
use Rattle.retrograde.specs.AllRecords.{AllRecords, mean_of_rank, shares_of_rank}
use Rattle.retrograde.specs.KeptShares.{shares_in}
use Rattle.retrograde.specs.declared.kept_shares.KeptSpread.{KeptSpread}
use Rattle.retrograde.proofs.pulling.add_plays.Given as goal

-- the shares that are lent
abbrev pub shares_of : KeptSpread → List ℕ
shares_of spread = shares_in spread.bytes.now

-- what the rolls so far play to
abbrev pub invariant-loop-index : goal.invariant-loop-index
invariant-loop-index l = record {
  means_len : length l.means ≡ 21;
  spreads_len : length l.spreads ≡ 21;
  means_are : (full : AllRecords) (j : ℕ) → j < l.index
      → get_or l.means j 0 ≡ mean_of_rank full (slice_index l.plays j);
  spreads_are : (full : AllRecords) (j : ℕ) → j < l.index
      → slice_index_or (map shares_of l.spreads) j []
      ≡ shares_of_rank full (slice_index l.plays j);
}
