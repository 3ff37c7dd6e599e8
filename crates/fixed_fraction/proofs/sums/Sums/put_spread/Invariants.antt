use Rattle.std.proofs.Common.{◌≡◌, ℕ, suc, ◌*◌, ◌%◌, ◌<◌, ◌≤◌, length, get_or}
use Rattle.fixed_fraction.proofs.sums.Sums.put_spread.Given as goal

-- the shares of at most k rolls are there
abbrev pub invariant-loop-k : goal.invariant-loop-k
invariant-loop-k l = record {
  len : length l.shares ≡ 23;
  start : get_or l.shares 0 0 ≡ 0;
  left : (j : ℕ) → l.k ≤ j → get_or l.shares (suc j) 0 ≡ 0;
  moved : (j : ℕ) → j < l.k → 36 * get_or l.shares (suc j) 0 ≡ get_or l.self-inside.shares j 0;
  multiples : (j : ℕ) → j < l.k → get_or l.self-inside.shares j 0 % 36 ≡ 0;
}
