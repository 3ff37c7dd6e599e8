use Rattle.std.proofs.Common.{arith, rules, ◌≡◌, ◌-◌, ◌*◌, ◌^◌, ◌<◌, [], ◌∷◌, ◌++◌, length, take, ap, ◌∙◌, sum_by}
use Rattle.race_model.specs.Prelude.{numbers_from}
use Rattle.plain_model.specs.Counting.{positions_before}
use Rattle.plain_model.proofs.CountLemmas.{positions_before-given, before_tried, before_untried}
use Rattle.plain_model.proofs.CountLemmas.{before_next, take-first_set, pow-step, pow-limit}
use Rattle.plain_model.proofs.CountLemmas.{bounded_next, bounded_all}
use Rattle.plain_model.proofs.ranks.+count_earlier.Goals as goal

pub returns-then-left-eq0-clause-value : goal.returns-then-left-eq0-clause-value
returns-then-left-eq0-clause-value t c =
    let six : length c.args.counts ≡ 6 = search rules in
    let given =
    positions_before-given c.args.counts c.args.left c.args.others six c.if-left-eq0.true in
    rw (c.from.ensures, c.is_earlier_position.ensures, given) (search rules)

pub loop-checkers-init : goal.loop-checkers-init
loop-checkers-init t c = record { counted = before_untried _; bounded = omega arith }

pub overflow_add-found : goal.overflow_add-found
overflow_add-found t c =
    let small =
    bounded_all _ _ _ _ c.loop-checkers.invariant.bounded c.count_earlier-found.ensures.range
    (omega arith) in
    omega (arith, small, pow-step c.args.left (omega arith), pow-limit c.args.left c.requires)

pub loop-checkers-preserved : goal.loop-checkers-preserved
loop-checkers-preserved t c = let six : length c.args.counts ≡ 6 = search rules in record {
  counted =
      before_next _ _ _ _ c.loop-checkers.invariant.counted
      (c.count_earlier-found.ensures.value
      ∙ ap (λ y. positions_before y (c.args.left - 1) c.args.others)
      (take-first_set c.args.counts c.args.left c.loop-checkers.checkers six
      (omega arith) c.requires));
  bounded =
      bounded_next _ _ _ _ c.loop-checkers.invariant.bounded c.count_earlier-found.ensures.range;
}

pub returns-clause-value : goal.returns-clause-value
returns-clause-value t c =
    let all : c.loop-checkers.checkers ≡ 16 = omega arith in
    let some : 0 < c.args.left = omega arith in
    c.loop-checkers.invariant.counted
    ∙ ap
    (λ k.
    sum_by
    (λ n.
    positions_before (take (6 - c.args.left) c.args.counts ++ n ∷ [])
    (c.args.left - 1) c.args.others) (numbers_from 0 k)) all
    ∙ before_tried (take (6 - c.args.left) c.args.counts) c.args.left c.args.others some

pub returns-clause-range : goal.returns-clause-range
returns-clause-range t c =
    let all : c.loop-checkers.checkers ≡ 16 = omega arith in
    omega (
      arith,
      c.loop-checkers.invariant.bounded,
      ap (λ k. k * 16 ^ (c.args.left - 1)) all,
      pow-step c.args.left (omega arith),
    )
