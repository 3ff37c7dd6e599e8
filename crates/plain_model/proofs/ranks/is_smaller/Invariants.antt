use Rattle.std.proofs.Common.{◌≡◌, drop}
use Rattle.race_model.specs.Prelude.{comes_first}
use Rattle.plain_model.proofs.ranks.is_smaller.Given as goal

-- the counts passed are the same
abbrev pub invariant-loop-place : goal.invariant-loop-place
invariant-loop-place l =
    comes_first l.counts l.others ≡ comes_first (drop l.place l.counts) (drop l.place l.others)
