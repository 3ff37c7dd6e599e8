-- By the loop over the plays, each of which has at most the whole.
use Rattle.std.proofs.Common.{◌≡◌, ℕ, ◌<◌, ◌≤◌, List, [], map, get_or, sym, ap, ◌∙◌, arith}
use Rattle.std.specs.Int.{w128}
use Rattle.std.proofs.Math.Facts.{Fits-of_lt}
use Rattle.std.proofs.lemmas.List.{get_or-map}
use Rattle.std.proofs.lemmas.List.Elements.{All-get_or}
use Rattle.race_model.specs.Prelude.{whole}
use Rattle.fixed_fraction.proofs.Shares.{share_at_most_sum}
use Rattle.fixed_fraction.proofs.RollSums.{sum_at-more}
use Rattle.fixed_fraction.proofs.sums.sum_of_shares.Given.{Over}
use Rattle.fixed_fraction.proofs.sums.sum_of_shares.Goals.{After-share-total}
use Rattle.fixed_fraction.proofs.sums.sum_of_shares.Goals as goal

-- the play that comes next
module _ (g : Over) (c : After-share-total g) where
  abbrev spreads : List (List ℕ)
  spreads = map g.S.Distribution.shares c.args.spreads.now

  inside : c.from.result < 21
  inside =
      omega (
        arith,
        c.from.ensures,
        All-get_or (λ i. i < 21) c.args.indices.now c.loop-place.place 0 c.loop-place-test.true
            c.requires.indices,
      )

  -- its share
  next : c.share-total.result
      ≡ get_or (get_or spreads (get_or c.args.indices.now c.loop-place.place 0) []) c.args.k 0
  next =
      c.share-total.ensures
      ∙ ap (λ (xs : List ℕ). get_or xs c.args.k 0)
      (sym (get_or-map g.S.Distribution.shares c.args.spreads.now c.from.result
      c.index-spreads-from.result [] (omega (arith, c.told-spreads, inside)))
      ∙ ap (λ i. get_or spreads i []) c.from.ensures)

  -- its share is no more than the whole
  most : c.share-total.result ≤ whole
  most =
      let i = get_or c.args.indices.now c.loop-place.place 0 in
      omega (
        arith,
        next,
        share_at_most_sum (get_or spreads i []) c.args.k,
        c.requires.wholes i (omega (arith, inside, c.from.ensures)),
      )

pub overflow_add-total : goal.overflow_add-total
unfolding whole
overflow_add-total g c =
    let here = (goal.at.overflow_add-total g c).After-share-total in
    Fits-of_lt {w = w128}
    (omega (
      arith,
      most g here,
      c.loop-place.invariant.small,
      c.requires.room,
      c.loop-place-test.true,
    ))

pub loop-place-preserved : goal.loop-place-preserved
unfolding whole
loop-place-preserved g c =
    let here = (goal.at.loop-place-preserved g c).After-share-total in
    record {
      total =
          omega (
            arith,
            next g here,
            c.loop-place.invariant.total,
            sum_at-more (spreads g here) c.args.indices.now c.loop-place.place c.args.k
                c.loop-place-test.true,
          );
      small = omega (arith, most g here, c.loop-place.invariant.small);
    }
