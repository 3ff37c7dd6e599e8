use Rattle.std.proofs.Common.{◌≡◌, ◌-◌, ◌*◌, ◌≤◌, length-set, replicate, slice_index}
use Rattle.std.proofs.Common.{refl, sym, ap, ◌∙◌, arith}
use Rattle.race_model.specs.Positions.{count}
use Rattle.race_model.proofs.Numbers.Members.{set_next}
use Rattle.ranking.specs.Chains.{checkers_left, pips_left}
use Rattle.ranking.proofs.Chains.{left-start, left-next, left_fits}
use Rattle.ranking.proofs.left.Left.of.Goals as goal

pub loop-point-init : goal.loop-point-init
loop-point-init c =
    let x = c.args.position.now in
    let start = left-start x in
    let p = c.from-pips.result in
    record {
      first = omega arith;
      checkers_long = refl;
      pips_long = refl;
      checkers_at = λ n few.
          let none : n ≡ 0 = omega (arith, few) in
          ap (slice_index (replicate 7 15)) none ∙ sym (ap (checkers_left x) none ∙ start.0);
      pips_at = λ n few.
          let none : n ≡ 0 = omega (arith, few) in
          ap (slice_index (replicate 7 p)) none
          ∙ ((c.from-pips.ensures ∙ c.pips.ensures.value)
          ∙ sym (ap (pips_left x) none ∙ start.1));
    }

-- what stands on the point is left
fit : (c : goal.After-from-count) →
    (count c.args.position.now c.loop-point.point
    ≤ checkers_left c.args.position.now (c.loop-point.point - 1))
    × (c.loop-point.point * count c.args.position.now c.loop-point.point
    ≤ pips_left c.args.position.now (c.loop-point.point - 1))
fit c =
    left_fits c.args.position.now c.loop-point.point c.count.ensures.position
    c.loop-point.invariant.first (omega (arith, c.loop-point-test.true))

-- the number that is taken from
checkers_before : (c : goal.After-from-count) →
    slice_index c.loop-point.checkers (c.from-place.result - 1)
    ≡ checkers_left c.args.position.now (c.loop-point.point - 1)
checkers_before c =
    ap (λ n. slice_index c.loop-point.checkers (n - 1)) c.from-place.ensures
    ∙ c.loop-point.invariant.checkers_at (c.loop-point.point - 1)
    (omega (arith, c.loop-point.invariant.first))

-- the number of pips that is taken from
pips_before : (c : goal.After-from-count) →
    slice_index c.loop-point.pips (c.from-place.result - 1)
    ≡ pips_left c.args.position.now (c.loop-point.point - 1)
pips_before c =
    ap (λ n. slice_index c.loop-point.pips (n - 1)) c.from-place.ensures
    ∙ c.loop-point.invariant.pips_at (c.loop-point.point - 1)
    (omega (arith, c.loop-point.invariant.first))

-- how many checkers are taken, and how many pips
taken : (c : goal.After-from-count) →
    c.from-count.result ≡ count c.args.position.now c.loop-point.point
taken c = c.from-count.ensures ∙ c.count.ensures.value

weight : (c : goal.After-from-count) →
    c.from-place.result * c.from-count.result
    ≡ c.loop-point.point * count c.args.position.now c.loop-point.point
weight c =
    ap (λ n. n * c.from-count.result) c.from-place.ensures
    ∙ ap (λ n. c.loop-point.point * n) (taken c)

pub overflow_sub-checkers-in-loop-point : goal.overflow_sub-checkers-in-loop-point
overflow_sub-checkers-in-loop-point c = omega (arith, checkers_before c, taken c, (fit c).0)

pub overflow_sub-pips-in-loop-point : goal.overflow_sub-pips-in-loop-point
overflow_sub-pips-in-loop-point c = omega (arith, pips_before c, weight c, (fit c).1)

pub loop-point-preserved : goal.loop-point-preserved
loop-point-preserved c =
    let x = c.args.position.now in
    let p = c.loop-point.point in
    let next = left-next x p c.loop-point.invariant.first in
    let checkers = c.loop-point.checkers in
    let pips = c.loop-point.pips in
    let before = c.loop-point.invariant in
    let few = slice_index checkers (c.from-place.result - 1) - c.from-count.result in
    let low = slice_index pips (c.from-place.result - 1)
    - c.from-place.result * c.from-count.result in
    record {
      first = omega arith;
      checkers_long = length-set checkers c.from-place.result few ∙ before.checkers_long;
      pips_long = length-set pips c.from-place.result low ∙ before.pips_long;
      checkers_at =
          set_next (λ j r. r ≡ checkers_left x j) checkers p c.from-place.result few 0
          c.from-place.ensures
          (omega (arith, before.checkers_long, c.loop-point-test.true)) before.checkers_at
          (omega (arith, checkers_before c, taken c, next.0));
      pips_at =
          set_next (λ j r. r ≡ pips_left x j) pips p c.from-place.result low 0
          c.from-place.ensures
          (omega (arith, before.pips_long, c.loop-point-test.true)) before.pips_at
          (omega (arith, pips_before c, weight c, next.1));
    }
