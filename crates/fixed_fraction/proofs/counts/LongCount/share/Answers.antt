-- A share is its count times a power of 36.
use Rattle.std.proofs.Common.{◌≡◌, ℕ, ◌+◌, ◌-◌, ◌*◌, ◌^◌, ◌≤◌, ap₂, ◌∙◌, arith}
use Rattle.fixed_fraction.specs.Board.{part}
use Rattle.fixed_fraction.proofs.TwoParts.{share_within, whole_share, power_within}
use Rattle.fixed_fraction.proofs.counts.LongCount.share.Goals as goal
use Rattle.fixed_fraction.proofs.counts.LongCount.share.Goals.{After-power_of_36}

pub joined-requires : goal.joined-requires
joined-requires c =
    let few : c.args.k ≤ 22 = c.if-k-le22.true in
    omega (arith, c.self.view_is, c.requires.within, power_within c.args.k 22 few)

-- the upper part is the count times a power of 36
product : (c : After-power_of_36) →
    c.joined.result * c.power_of_36.result ≡ c.args.self * 36 ^ (22 - c.args.k)
product c = ap₂ (λ a b. a * b) (c.joined.ensures ∙ c.self.view_is) c.power_of_36.ensures

pub overflow_mul-joined : goal.overflow_mul-joined
overflow_mul-joined c =
    omega (
      arith,
      product (goal.at.overflow_mul-joined c).After-power_of_36,
      (whole_share c.args.self c.args.k c.if-k-le22.true c.requires.within).1,
    )

pub of_parts-requires-clause-most : goal.of_parts-requires-clause-most
of_parts-requires-clause-most c =
    omega (
      arith,
      product (goal.at.of_parts-requires-clause-most c).After-power_of_36,
      (whole_share c.args.self c.args.k c.if-k-le22.true c.requires.within).1,
    )

pub returns-then-k-le22 : goal.returns-then-k-le22
returns-then-k-le22 c =
    let is = product (goal.at.returns-then-k-le22 c).After-power_of_36 in
    omega (
      arith,
      c.of_parts.ensures,
      is,
      (whole_share c.args.self c.args.k c.if-k-le22.true c.requires.within).0,
    )

pub times-requires-clause-factor : goal.times-requires-clause-factor
times-requires-clause-factor c =
    omega (arith, c.power_of_36-2.ensures, power_within (33 - c.args.k) 10 (omega arith))

-- two parts times the power are the share
shared : (upper lower n k power : ℕ) → upper * part + lower ≡ n → power ≡ 36 ^ (33 - k) →
    (upper * part + lower) * power ≡ n * 36 ^ (33 - k)
shared upper lower n k power is same = ap₂ (λ a b. a * b) is same

pub times-requires-clause-most : goal.times-requires-clause-most
times-requires-clause-most c =
    omega (
      arith,
      shared _ _ _ c.args.k _ c.self.view_is c.power_of_36-2.ensures,
      share_within c.args.self c.args.k c.requires.few c.requires.within,
    )

pub returns : goal.returns
returns c = c.times.ensures ∙ shared _ _ _ c.args.k _ c.self.view_is c.power_of_36-2.ensures
