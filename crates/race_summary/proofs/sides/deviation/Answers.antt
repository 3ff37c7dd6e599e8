-- The squares of all 34 numbers of rolls were summed.
use Rattle.std.proofs.Common.{◌≡◌, ◌∙◌, ◌/◌, ℕ, List, ap, ap₂, subst, arith}
use Rattle.race_summary.specs.Sides.{IsRoot, squares}
use Rattle.race_summary.proofs.sides.deviation.Goals as goal

-- the squares of the last k are those of 34
at_end : (mean : ℕ) (shares : List ℕ) (k : ℕ) → k ≡ 34
    → squares mean shares k ≡ squares mean shares 34
at_end mean shares k last = ap (squares mean shares) last

pub returns : goal.returns
returns c = subst (λ s. IsRoot s c.root.result)
    (ap₂ (λ a b. a / b) (c.loop-k.invariant.sum ∙ at_end c.args.mean c.args.shares.now c.loop-k.k
    (omega (arith, c.loop-k-test.false, c.loop-k.auto.k-end))) c.from.ensures)
    c.root.ensures
