use Rattle.std.proofs.Common.{◌≡◌, ℕ, ◌+◌, ◌-◌, ◌<◌, w16, length-set, refl, sym, ap, ◌∙◌, arith}
use Rattle.std.proofs.Math.Facts.{Fits-of_lt}
use Rattle.race_model.specs.Prelude.{fewer, more, rank}
use Rattle.race_model.proofs.Numbers.Members.{set_next}
use Rattle.ranking.specs.Chains.{sum_from, between, above}
use Rattle.ranking.proofs.Chains.{is_point, above-few, left_above, reached}
use Rattle.ranking.proofs.Chains.{sum_from-none, between-more, down_left}
use Rattle.ranking.proofs.rank_table.RankTable.chain_from.Goals as goal
use Rattle.ranking.proofs.rank_table.RankTable.chain_from.Goals.{After-cell-upper}

pub sum_above-upper-requires-clause-room : goal.sum_above-upper-requires-clause-room
sum_above-upper-requires-clause-room c = λ p higher.
    omega (
      arith,
      left_above c.args.left.now.position c.args.source p c.requires.left.position
          c.requires.occupied higher,
    )

pub sum_above-upper-requires-clause-few : goal.sum_above-upper-requires-clause-few
sum_above-upper-requires-clause-few c =
    let x = c.args.left.now.position in
    let point = is_point x c.args.source c.requires.left.position c.requires.occupied in
    above-few x c.args.source c.requires.left.position point.0 point.1

pub loop-far-init : goal.loop-far-init
loop-far-init c = record {
  first = omega arith;
  long = refl;
  sum = omega (
    arith,
    c.sum_above-upper.ensures,
    sum_from-none (between c.args.left.now.position c.args.source) (c.args.source - 1 + 1) (1 - 1)
        (omega arith),
  );
  each = λ n few. absurd (omega (arith, few));
}

pub overflow_sub-left : goal.overflow_sub-left
overflow_sub-left c =
    (reached c.args.left.now c.args.source (c.args.source - c.loop-far.far) c.requires.left
    c.requires.occupied (omega (arith, c.loop-far.invariant.first, c.loop-far-test.true))).some

pub overflow_sub-left-in-loop-far : goal.overflow_sub-left-in-loop-far
overflow_sub-left-in-loop-far c =
    (reached c.args.left.now c.args.source (c.args.source - c.loop-far.far) c.requires.left
    c.requires.occupied (omega (arith, c.loop-far.invariant.first, c.loop-far-test.true))).enough

pub cell-upper-requires-clause-few : goal.cell-upper-requires-clause-few
cell-upper-requires-clause-few c =
    let s = c.args.source in
    let lower : s - c.loop-far.far < s =
    omega (arith, c.loop-far.invariant.first, c.loop-far-test.true) in
    let is = reached c.args.left.now s (s - c.loop-far.far) c.requires.left c.requires.occupied
    lower in
    omega (arith, is.few)

pub cell-upper-requires-clause-low : goal.cell-upper-requires-clause-low
cell-upper-requires-clause-low c =
    let s = c.args.source in
    let lower : s - c.loop-far.far < s =
    omega (arith, c.loop-far.invariant.first, c.loop-far-test.true) in
    let is = reached c.args.left.now s (s - c.loop-far.far) c.requires.left c.requires.occupied
    lower in
    omega (arith, is.low)

-- one point more
next : (c : After-cell-upper) → c.loop-far.upper + c.cell-upper.result
    ≡ sum_from (between c.args.left.now.position c.args.source) (c.args.source - c.loop-far.far)
    c.loop-far.far
    + sum_from (above c.args.left.now.position 0) c.args.source (7 - c.args.source)
next c =
    let s = c.args.source in
    let far = c.loop-far.far in
    let is = reached c.args.left.now s (s - far) c.requires.left c.requires.occupied
    (omega (arith, c.loop-far.invariant.first, c.loop-far-test.true)) in
    omega (
      arith,
      c.loop-far.invariant.sum,
      c.cell-upper.ensures,
      is.term,
      between-more c.args.left.now.position s (s - far) far c.loop-far.invariant.first
          (omega (arith, c.loop-far-test.true)),
    )

-- as many pips as lie between
between_pips : (s far : ℕ) → far < s → s - (s - far) ≡ far
between_pips s far lower = omega (arith, lower)

pub overflow_add-upper : goal.overflow_add-upper
overflow_add-upper c =
    let s = c.args.source in
    let far = c.loop-far.far in
    let x = c.args.left.now.position in
    Fits-of_lt {w = w16}
    (omega (
      arith,
      next c,
      (down_left c.args.left.now s (s - far) c.requires.left c.requires.occupied
          (omega (arith, c.loop-far-test.true))
          (omega (arith, c.loop-far.invariant.first, c.loop-far-test.true))).few,
      ap (sum_from (between x s) (s - far)) (between_pips s far c.loop-far-test.true),
    ))

pub rank_down-requires-clause-upper : goal.rank_down-requires-clause-upper
rank_down-requires-clause-upper c =
    let s = c.args.source in
    let far = c.loop-far.far in
    let x = c.args.left.now.position in
    omega (
      arith,
      next c,
      ap (sum_from (between x s) (s - far)) (between_pips s far c.loop-far-test.true),
    )

pub loop-far-preserved : goal.loop-far-preserved
loop-far-preserved c =
    let s = c.args.source in
    let far = c.loop-far.far in
    let x = c.args.left.now.position in
    let chain = c.loop-far.chain in
    let before = c.loop-far.invariant in
    let inside = c.loop-far-test.true in
    let point = is_point x s c.requires.left.position c.requires.occupied in
    let start : s - (far + 1) + 1 ≡ s - far = omega (arith, inside) in
    let end : far + 1 - 1 ≡ far = omega arith in
    let last : far - 1 + 1 ≡ far = omega (arith, before.first) in
    record {
      first = omega arith;
      long = length-set chain (far - 1) c.rank_down.result ∙ before.long;
      sum = omega (
        arith,
        next (goal.at.loop-far-preserved c).After-cell-upper,
        ap (λ a. sum_from (between x s) a (far + 1 - 1)) start,
        ap (sum_from (between x s) (s - far)) end,
      );
      each = λ n few.
          set_next (λ j r. r ≡ rank (more (fewer x s) (s - (j + 1)))) chain (far - 1) (far - 1)
          c.rank_down.result 0 refl (omega (arith, before.long, before.first, inside, point.1))
          before.each (c.rank_down.ensures ∙ ap (λ f. rank (more (fewer x s) (s - f))) (sym last))
          n (omega (arith, few, before.first));
    }
