use Rattle.std.proofs.Common.{◌≡◌, ℕ, ◌<◌, slice_index}
use Rattle.race_model.specs.Prelude.{version_by, told_share}
use Rattle.db_layout.proofs.header.Header.holds.Given as goal

-- the shares so far are told
abbrev pub invariant-loop-k : goal.invariant-loop-k
invariant-loop-k l = (j : ℕ) → j < l.k →
    slice_index l.spread j
    ≡ told_share (version_by l.self.version) l.pips (slice_index l.spread) j
