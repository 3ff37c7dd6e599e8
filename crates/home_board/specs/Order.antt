-- The order of ranks, as a comparison.
use Rattle.std.specs.Prelude.{ℕ, List}
use Rattle.std.specs.Ordering.{nat_cmp, on, then_cmp}
use Rattle.std.specs.Cmp.Lexicographic.{slice_cmp}
use Rattle.std.specs.declared.cmp.Ordering.{Ordering}
use Rattle.race_model.specs.Prelude.{pips}

-- fewer pips come first, and of as many the smaller list of counts
abbrev pub rank_cmp : List ℕ → List ℕ → Ordering
rank_cmp = then_cmp (on pips nat_cmp) (slice_cmp nat_cmp)
