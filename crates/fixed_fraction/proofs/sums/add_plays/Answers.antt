-- What is before, what all plays may have, and the rest.
use Rattle.std.proofs.Common.{◌≡◌, ⊎_elim, ℕ, ◌<◌, List, [], map, get_or, arith, ◌∙◌}
use Rattle.std.proofs.lemmas.Bool.{cases_lt}
use Rattle.std.proofs.lemmas.List.{length-map}
use Rattle.fixed_fraction.specs.Totals.{sum_at}
use Rattle.fixed_fraction.proofs.RollSums.{sum_at-zero}
use Rattle.fixed_fraction.proofs.sums.add_plays.Given.{Over}
use Rattle.fixed_fraction.proofs.sums.add_plays.Goals.{After-add_each-2}
use Rattle.fixed_fraction.proofs.sums.add_plays.Goals as goal

module _ (g : Over) (c : After-add_each-2 g) where
  abbrev spreads : List (List ℕ)
  spreads = map g.S.Distribution.shares c.args.spreads.now

  -- a share that no play has
  none : (k : ℕ) → ((i : ℕ) → i < 21 → get_or (get_or spreads i []) k 0 ≡ 0)
      → sum_at spreads c.args.indices.now k ≡ 0
  none k =
      sum_at-zero spreads c.args.indices.now k
      (length-map c.args.spreads.now g.S.Distribution.shares ∙ c.told-spreads)

pub returns-clause-added : goal.returns-clause-added
returns-clause-added g c k few = ⊎_elim
    (λ less.
    omega (
      arith,
      c.add_each-2.ensures.before k (omega (arith, less, c.max-from.ensures, c.max-end.ensures)),
      c.add_common.ensures.before k (omega (arith, less, c.max-from.ensures)),
      c.add_each.ensures.before k less,
      none g c k (λ i inside. c.requires.before i k inside less),
    ))
    (λ from. ⊎_elim
    (λ under.
    omega (
      arith,
      c.add_each-2.ensures.before k (omega (arith, under, c.max-end.ensures)),
      c.add_common.ensures.before k under,
      c.add_each.ensures.added k from under,
    ))
    (λ past. ⊎_elim
    (λ common.
    omega (
      arith,
      c.add_each-2.ensures.before k common,
      c.add_common.ensures.added k past common,
      c.add_each.ensures.beyond k past,
    ))
    (λ rest. ⊎_elim
    (λ last.
    omega (
      arith,
      c.add_each-2.ensures.added k rest last,
      c.add_common.ensures.beyond k rest,
      c.add_each.ensures.beyond k past,
    ))
    (λ beyond.
    omega (
      arith,
      c.add_each-2.ensures.beyond k beyond,
      c.add_common.ensures.beyond k rest,
      c.add_each.ensures.beyond k past,
      none g c k (λ i inside. c.requires.beyond i k inside beyond),
    ))
    (cases_lt k c.args.rolls))
    (cases_lt k c.max-end.result))
    (cases_lt k c.max-from.result))
    (cases_lt k c.args.first)
