use Rattle.std.proofs.Common.{◌≡◌, ℕ, ◌==◌, List, Some, map, take, length}
use Rattle.std.specs.List.{slice_split}
use Rattle.race_model.specs.Prelude.{count_value}
use Rattle.home_board.proofs.Counts.{capped}
use Rattle.home_board.proofs.text.parse_counts.Given as goal

-- the parts so far state some counts, and these are they, as bytes
abbrev pub invariant-loop-part : goal.invariant-loop-part
invariant-loop-part l = record {
  told : List ℕ;
  states : map count_value (take (length l.yielded) (slice_split (λ c. c == 44) l.text))
      ≡ map (λ c. Some c) told;
  as_many : length told ≡ length l.yielded;
  kept : l.counts.items ≡ capped told;
}
