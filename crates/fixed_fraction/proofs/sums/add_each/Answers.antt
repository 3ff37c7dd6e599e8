-- By the loop over the plays, each of which adds its shares.
use Rattle.std.proofs.Common.{◌≡◌, ℕ, ◌+◌, ◌<◌, ◌≤◌, List, [], map, get_or, sym, ap, ◌∙◌, arith, slice_index}
use Rattle.std.proofs.Common.{slice_index_or}
use Rattle.std.proofs.lemmas.List.{get_or-map, take_all}
use Rattle.std.proofs.lemmas.List.Elements.{All-get_or}
use Rattle.race_model.specs.Prelude.{whole}
use Rattle.fixed_fraction.specs.Totals.{sum_at}
use Rattle.fixed_fraction.proofs.Shares.{share_at_most_sum}
use Rattle.fixed_fraction.proofs.RollSums.{sum_at-more}
use Rattle.fixed_fraction.proofs.sums.add_each.Given.{Over}
use Rattle.fixed_fraction.proofs.sums.add_each.Goals.{After-index-spreads-from}
use Rattle.fixed_fraction.proofs.sums.add_each.Goals as goal

-- the play that comes next
module _ (g : Over) (c : After-index-spreads-from g) where
  abbrev spreads : List (List ℕ)
  spreads = map g.S.Distribution.shares c.args.spreads.now

  -- its shares
  abbrev shares : List ℕ
  shares =
      g.S.Distribution.shares
      (slice_index_or c.args.spreads.now c.from.result c.index-spreads-from.result)

  inside : c.from.result < 21
  inside =
      omega (
        arith,
        c.from.ensures,
        All-get_or (λ i. i < 21) c.args.indices.now c.loop-place.place 0 c.loop-place-test.true
            c.requires.indices,
      )

  shares_are : shares ≡ get_or spreads c.from.result []
  shares_are =
      sym (get_or-map g.S.Distribution.shares c.args.spreads.now c.from.result
      c.index-spreads-from.result [] (omega (arith, c.told-spreads, inside)))

  at : (k : ℕ) → get_or shares k 0 ≡ get_or (get_or spreads c.from.result []) k 0
  at k = ap (λ (xs : List ℕ). get_or xs k 0) shares_are

  -- its shares are no more than the whole
  most : (k : ℕ) → get_or shares k 0 ≤ whole
  most k =
      omega (
        arith,
        share_at_most_sum (get_or spreads c.from.result []) k,
        at k,
        c.law_spreads.ensures.wholes c.from.result inside,
      )

pub add_shares-requires-clause-room : goal.add_shares-requires-clause-room
unfolding whole
add_shares-requires-clause-room g c k from few =
    let here = (goal.at.add_shares-requires-clause-room g c).After-index-spreads-from in
    omega (
      arith,
      most g here k,
      c.loop-place.invariant.small k from few,
      c.requires.room k from few,
      c.loop-place-test.true,
    )

pub returns-clause-small : goal.returns-clause-small
unfolding whole
returns-clause-small g c k from few =
    omega (
      arith,
      c.loop-place.invariant.small k from few,
      c.loop-place-test.false,
      c.loop-place.auto.place-end,
    )

pub returns-clause-added : goal.returns-clause-added
returns-clause-added g c k from few =
    c.loop-place.invariant.added k from few
    ∙ ap
    (λ (is : List ℕ). slice_index c.args.shares.now k
    + sum_at (map g.S.Distribution.shares c.args.spreads.now) is k)
    (take_all c.loop-place.place c.args.indices.now (omega (arith, c.loop-place-test.false)))

pub loop-place-preserved : goal.loop-place-preserved
unfolding whole
loop-place-preserved g c =
    let here = (goal.at.loop-place-preserved g c).After-index-spreads-from in
    record {
      len = c.add_shares.ensures.len;
      added = λ k from few.
          omega (
            arith,
            c.add_shares.ensures.added k from few,
            c.loop-place.invariant.added k from few,
            at g here k,
            sum_at-more (spreads g here) c.args.indices.now c.loop-place.place k
                c.loop-place-test.true,
            ap (λ i. get_or (get_or (spreads g here) i []) k 0) c.from.ensures,
          );
      small = λ k from few.
          omega (
            arith,
            c.add_shares.ensures.added k from few,
            c.loop-place.invariant.small k from few,
            most g here k,
          );
      before = λ k less.
          c.add_shares.ensures.before k less ∙ c.loop-place.invariant.before k less;
      beyond = λ k past.
          c.add_shares.ensures.beyond k past ∙ c.loop-place.invariant.beyond k past;
    }
