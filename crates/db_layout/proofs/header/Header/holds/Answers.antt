use Rattle.std.proofs.Common.{◌≡◌, ℕ, slice_index, refl, below_more, arith}
use Rattle.race_model.specs.Prelude.{version_by, told_share}
use Rattle.db_layout.proofs.header.Header.holds.Goals as goal

pub loop-k-init : goal.loop-k-init
loop-k-init c = λ j below. absurd (omega (arith, below))

pub loop-k-preserved : goal.loop-k-preserved
loop-k-preserved c =
    below_more
    (λ (j : ℕ).
    slice_index c.args.spread.now j
    ≡ told_share (version_by c.args.self.now.version) c.args.pips
    (slice_index c.args.spread.now) j) c.loop-k.k c.loop-k.invariant
    (c.if-not-is_told.ensures.0 refl)

pub returns : goal.returns
returns c = (
  λ _ k le. c.loop-k.invariant k (omega (arith, le, c.loop-k-test.false)),
  λ _. refl,
)
