use Rattle.std.proofs.Common.{◌≡◌, ℕ, suc, ◌*◌, ◌%◌, ◌<◌, length, get_or}
use Rattle.fixed_fraction.specs.Totals.{weighted_share}
use Rattle.fixed_fraction.proofs.spread.Spread.pull.Given as goal

-- the shares of at most k rolls are there
abbrev pub invariant-loop-k : goal.invariant-loop-k
invariant-loop-k l = record {
  len : length l.shares ≡ 23;
  start : get_or l.shares 0 0 ≡ 0;
  moved : (j : ℕ) → j < l.k → 36 * get_or l.shares (suc j) 0 ≡ weighted_share l.parts j;
  whole_parts : (j : ℕ) → j < l.k → weighted_share l.parts j % 36 ≡ 0;
}
