use Rattle.std.proofs.Common.{arith, ◌≡◌, ◌+◌, ◌*◌, ◌<◌, length, ap, sym, ◌∙◌}
use Rattle.race_model.proofs.Strategies.Histories.{one_at}
use Rattle.plain_model.specs.TwoTurns.{rolls_of_two}
use Rattle.plain_model.proofs.TotalLemmas.{added_to, added_to-zero, added_to-next, added_to-bound}
use Rattle.plain_model.proofs.TotalLemmas.{added_to-count, one_at-most, counted_or_not}
use Rattle.plain_model.proofs.totals.sequences_of_two.Goals as goal

pub loop-one-init : goal.loop-one-init
loop-one-init c = sym (added_to-zero (one_at c.args.rolls) c.args.start.now c.args.plays.now)

pub overflow_add-count : goal.overflow_add-count
overflow_add-count c =
    let few =
    added_to-bound (one_at c.args.rolls) 1 c.args.start.now c.args.plays.now
    (6 * c.loop-one.one + c.loop-other.other)
    (λ y. one_at-most c.args.rolls (rolls_of_two c.args.start.now y)) in
    omega (
      arith,
      c.loop-other.invariant,
      c.second_throws_with-count.ensures,
      counted_or_not c.args.rolls (rolls_of_two c.args.start.now c.index-plays-one.result),
      few,
      one_at-most c.args.rolls (rolls_of_two c.args.start.now c.index-plays-one.result),
    )

pub loop-other-preserved : goal.loop-other-preserved
loop-other-preserved c =
    let within : 6 * c.loop-one.one + c.loop-other.other < length c.args.plays.now = omega arith in
    let next =
    added_to-next (one_at c.args.rolls) c.args.start.now c.args.plays.now
    (6 * c.loop-one.one + c.loop-other.other) c.index-plays-one.result within
    c.index-plays-one.is in
    let place : 6 * c.loop-one.one + c.loop-other.other + 1 ≡ 6 * c.loop-one.one + (
    c.loop-other.other + 1) =
    omega arith in
    omega (
      arith,
      c.loop-other.invariant,
      c.second_throws_with-count.ensures,
      counted_or_not c.args.rolls (rolls_of_two c.args.start.now c.index-plays-one.result),
      next,
      ap (added_to (one_at c.args.rolls) c.args.start.now c.args.plays.now) place,
    )

pub returns : goal.returns
returns c second later =
    let all : 6 * c.loop-one.one ≡ 36 = omega arith in
    c.loop-one.invariant
    ∙ ap (added_to (one_at c.args.rolls) c.args.start.now c.args.plays.now) all
    ∙ added_to-count c.args.rolls c.args.start.now c.args.plays.now second later
