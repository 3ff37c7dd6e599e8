use Rattle.std.proofs.Common.{◌≡◌, ℕ, ◌+◌, ◌-◌, ◌<◌, ◌≤◌, length, slice_index}
use Rattle.race_model.specs.Prelude.{fewer, more, rank}
use Rattle.ranking.specs.Chains.{sum_from, between, above}
use Rattle.ranking.proofs.rank_table.RankTable.chain_from.Given as goal

-- the numbers of pips so far
abbrev pub invariant-loop-far : goal.invariant-loop-far
invariant-loop-far l = record {
  first : 1 ≤ l.far;
  long : length l.chain ≡ 6;
  sum : l.upper
      ≡ sum_from (between l.left.position l.source) (l.source - l.far + 1) (l.far - 1)
      + sum_from (above l.left.position 0) l.source (7 - l.source);
  each : (n : ℕ) → n < l.far - 1 →
      slice_index l.chain n ≡ rank (more (fewer l.left.position l.source) (l.source - (n + 1)));
}
