-- The shares of the rolls that are no doubles, twice, and those of the doubles.
use Rattle.std.proofs.Common.{◌≡◌, ⊎_elim, ℕ, ◌<◌, List, [], ◌∷◌, map, get_or, refl, ◌∙◌, arith, rules, true, replicate}
use Rattle.std.specs.List.{list_all, All, slice_index}
use Rattle.std.proofs.Math.Dec.{ltb}
use Rattle.std.proofs.lemmas.Bool.{cases_lt, ltb-true}
use Rattle.std.proofs.lemmas.List.{get_or_past, get_or-replicate}
use Rattle.std.proofs.lemmas.List.Sums.{AllPass-from_list_all}
use Rattle.race_model.specs.Prelude.{whole}
use Rattle.fixed_fraction.specs.Totals.{weighted_at}
use Rattle.fixed_fraction.proofs.RollSums.{shares-summed, weighted-by_index, weighted_at-zero}
use Rattle.fixed_fraction.proofs.sums.Sums.add_up.Given.{Over}
use Rattle.fixed_fraction.proofs.sums.Sums.add_up.Goals.{After-add_plays-2}
use Rattle.fixed_fraction.proofs.sums.Sums.add_up.Goals as goal

-- whether all indices are those of rolls, by a test
of_rolls : (is : List ℕ) → list_all (λ i. ltb i 21) is ≡ true → All (λ i. i < 21) is
of_rolls is tested = λ j d lt.
    ltb-true (get_or is j d) 21 (AllPass-from_list_all (λ i. ltb i 21) is tested j d lt)

-- no sum is there yet
none : (k : ℕ) → k < 23 → slice_index (replicate 23 0) k ≡ 0
none k few = get_or-replicate {A = ℕ} 23 k 0 0 few

pub add_plays-requires : goal.add_plays-requires
unfolding whole
add_plays-requires g c = (
  search rules,
  (
    of_rolls
        (1 ∷ 3 ∷ 4 ∷ 6 ∷ 7 ∷ 8 ∷ 10 ∷ 11 ∷ 12 ∷ 13 ∷ 15 ∷ 16 ∷ 17 ∷ 18 ∷ 19 ∷ []) refl,
    (
      c.requires.order,
      (
        c.requires.few,
        (c.requires.before, (c.requires.beyond, λ k few. omega (arith, none k few))),
      ),
    ),
  ),
)

pub double-requires : goal.double-requires
unfolding whole
double-requires g c = record {
  room = λ k few. omega (arith, c.add_plays.ensures.small k few, none k few);
}

pub add_plays-requires-2 : goal.add_plays-requires-2
unfolding whole
add_plays-requires-2 g c = (
  search rules,
  (
    of_rolls (0 ∷ 2 ∷ 5 ∷ 9 ∷ 14 ∷ 20 ∷ []) refl,
    (
      c.requires.order,
      (
        c.requires.few,
        (
          c.requires.before,
          (
            c.requires.beyond,
            λ k few. omega (
              arith,
              c.add_plays.ensures.small k few,
              c.double.ensures.doubled k few,
              none k few,
            ),
          ),
        ),
      ),
    ),
  ),
)

-- the sums of all rolls
each : (g : Over) (c : After-add_plays-2 g) (k : ℕ) → k < 23 →
    get_or c.add_plays-2.new.shares k 0
    ≡ weighted_at (map g.S.Distribution.shares c.args.spreads.now) k
each g c k few =
    omega (
      arith,
      c.add_plays-2.ensures.added k few,
      c.double.ensures.doubled k few,
      c.add_plays.ensures.added k few,
      none k few,
      weighted-by_index
          (λ i. get_or (get_or (map g.S.Distribution.shares c.args.spreads.now) i []) k 0),
    )

pub returns-clause-shares : goal.returns-clause-shares
returns-clause-shares g c k few = each g c k few

pub invariant_of-self : goal.invariant_of-self
invariant_of-self g c =
    let spreads = map g.S.Distribution.shares c.args.spreads.now in
    let shares = c.add_plays-2.new.shares in (
      record {
        len = c.add_plays-2.ensures.len;
        mean = c.sum_of_means-self-inside.ensures.bound;
        shares =
            shares-summed shares spreads c.add_plays-2.ensures.len (each g c)
            c.law_spreads.ensures.wholes c.law_spreads.ensures.lengths;
      },
      λ k more. ⊎_elim
          (λ few.
          each g c k few
          ∙ weighted_at-zero spreads k (λ i inside. c.requires.beyond i k inside more))
          (λ past. get_or_past shares k 0 (omega (arith, past, c.add_plays-2.ensures.len)))
          (cases_lt k 23),
    )
