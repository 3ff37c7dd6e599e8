use Rattle.std.proofs.Common.{IsTrue, ◌↔◌, ◌+◌, ◌*◌, ◌<◌, ◌≤◌, ap, ◌∙◌, subst, arith}
use Rattle.fixed_fraction.specs.Board.{part}
use Rattle.fixed_fraction.proofs.TwoParts.{power_in_parts}
use Rattle.fixed_fraction.proofs.parts.are_count_parts.Goals as goal

pub returns : goal.returns
returns c =
    subst
    (λ most. IsTrue c.are_parts.result
    ↔ ((c.args.lower < part) × (c.args.upper * part + c.args.lower ≤ most)))
    (ap (λ n. n * part) c.power_of_36.ensures
    ∙ power_in_parts c.args.k (omega (arith, c.requires.least)))
    c.are_parts.ensures
