use Rattle.std.proofs.Common.{◌≡◌, ℕ, ◌<◌, ◌≤◌, length, slice_index}
use Rattle.ranking.specs.Chains.{checkers_left, pips_left}
use Rattle.ranking.proofs.left.Left.of.Given as goal

-- what is left beyond the points below
abbrev pub invariant-loop-point : goal.invariant-loop-point
invariant-loop-point l = record {
  first : 1 ≤ l.point;
  checkers_long : length l.checkers ≡ 7;
  pips_long : length l.pips ≡ 7;
  checkers_at : (n : ℕ) → n < l.point → slice_index l.checkers n ≡ checkers_left l.position n;
  pips_at : (n : ℕ) → n < l.point → slice_index l.pips n ≡ pips_left l.position n;
}
