use Rattle.std.proofs.Common.{◌≡◌, ◌-◌, ◌*◌, ◌^◌, ◌≤◌, [], ◌∷◌, ◌++◌, take, sum_by}
use Rattle.race_model.specs.Prelude.{numbers_from}
use Rattle.plain_model.specs.Counting.{positions_before}
use Rattle.plain_model.proofs.ranks.+count_earlier.Given as goal

-- one count fewer to try
abbrev pub decreases-count_earlier : goal.decreases-count_earlier
decreases-count_earlier l = l.left

-- the lists with the numbers passed in the first place left have been counted
abbrev pub invariant-loop-checkers : goal.invariant-loop-checkers
invariant-loop-checkers l = record {
  counted : l.found
      ≡ sum_by (λ c. positions_before (take (6 - l.left) l.counts ++ c ∷ []) (l.left - 1) l.others)
      (numbers_from 0 l.checkers);
  bounded : l.found ≤ l.checkers * 16 ^ (l.left - 1);
}
