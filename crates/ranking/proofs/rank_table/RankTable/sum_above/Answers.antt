use Rattle.std.proofs.Common.{◌≡◌, ◌+◌, ◌-◌, ◌≤◌, w16, slice_index, ap, ◌∙◌, arith}
use Rattle.std.proofs.Math.Facts.{Fits-of_lt}
use Rattle.ranking.specs.Chains.{checkers_left, pips_left, sum_from, above}
use Rattle.ranking.proofs.Chains.{sum_from-none, sum_from-more, sum_from-part, left-most, used-equal}
use Rattle.ranking.proofs.rank_table.RankTable.sum_above.Goals as goal

pub loop-point-init : goal.loop-point-init
loop-point-init c = record {
  first = omega arith;
  sum = sum_from-none (above c.args.left.now.position c.args.off) c.args.source
      (c.args.source - c.args.source) (omega arith);
}

pub cell-later-requires-clause-few : goal.cell-later-requires-clause-few
cell-later-requires-clause-few c =
    let p = c.loop-point.point in
    omega (
      arith,
      c.requires.left.checkers_at p (omega (arith, c.loop-point-test.true)),
      c.requires.room p (omega (arith, c.loop-point.invariant.first)),
    )

pub cell-later-requires-clause-low : goal.cell-later-requires-clause-low
cell-later-requires-clause-low c =
    let p = c.loop-point.point in
    omega (
      arith,
      c.requires.left.pips_at p (omega (arith, c.loop-point-test.true)),
      (left-most c.args.left.now.position p c.requires.left.position).1,
    )

-- one point more
next : (c : goal.After-cell-later) → c.loop-point.later + c.cell-later.result
    ≡ sum_from (above c.args.left.now.position c.args.off) c.args.source
    (c.loop-point.point + 1 - c.args.source)
next c =
    let x = c.args.left.now.position in
    let p = c.loop-point.point in
    let s = c.args.source in
    let low : p ≤ 6 = omega (arith, c.loop-point-test.true) in
    let term : c.cell-later.result ≡ above x c.args.off p =
    c.cell-later.ensures
    ∙ used-equal p (slice_index c.args.left.now.checkers p + c.args.off)
    (checkers_left x p + c.args.off) (slice_index c.args.left.now.pips p) (pips_left x p)
    (ap (λ k. k + c.args.off) (c.requires.left.checkers_at p low))
    (c.requires.left.pips_at p low) in
    omega (
      arith,
      c.loop-point.invariant.sum,
      term,
      sum_from-more (above x c.args.off) s p (p - s)
          (omega (arith, c.loop-point.invariant.first)) (omega arith),
    )

pub overflow_add-later : goal.overflow_add-later
overflow_add-later c =
    Fits-of_lt {w = w16}
    (omega (
      arith,
      next c,
      sum_from-part (above c.args.left.now.position c.args.off) c.args.source
          (c.loop-point.point + 1 - c.args.source) (7 - c.args.source)
          (omega (arith, c.loop-point-test.true, c.loop-point.invariant.first)),
      c.requires.few,
    ))

pub loop-point-preserved : goal.loop-point-preserved
loop-point-preserved c = record {
  first = omega (arith, c.loop-point.invariant.first);
  sum = next c;
}

pub returns : goal.returns
returns c =
    let end : c.loop-point.point ≡ 7 =
    omega (arith, c.loop-point-test.false, c.loop-point.auto.point-end, c.requires.last) in
    c.loop-point.invariant.sum
    ∙ ap (λ n. sum_from (above c.args.left.now.position c.args.off) c.args.source
    (n - c.args.source)) end
