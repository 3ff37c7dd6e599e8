use Rattle.std.proofs.Common.{arith, ◌≡◌, ◌+◌, ◌*◌, ◌<◌, length, ap, sym, ◌∙◌}
use Rattle.plain_model.proofs.TotalLemmas.{added_to, added_to-zero, added_to-next, added_to-bound}
use Rattle.plain_model.proofs.TotalLemmas.{added_to-total, rolls_of_two-most}
use Rattle.plain_model.proofs.totals.total_over_two.Goals as goal

pub loop-first-init : goal.loop-first-init
loop-first-init c = sym (added_to-zero (λ k. k) c.args.start.now c.args.plays.now)

pub overflow_add-total : goal.overflow_add-total
overflow_add-total c =
    let few =
    added_to-bound (λ k. k) 2 c.args.start.now c.args.plays.now
    (6 * c.loop-first.first + c.loop-second.second) (rolls_of_two-most c.args.start.now) in
    omega (
      arith,
      c.loop-second.invariant,
      c.over_second_throws-total.ensures,
      few,
      rolls_of_two-most c.args.start.now c.index-plays-first.result,
    )

pub loop-second-preserved : goal.loop-second-preserved
loop-second-preserved c =
    let within : 6 * c.loop-first.first + c.loop-second.second < length c.args.plays.now =
    omega arith in
    let next =
    added_to-next (λ k. k) c.args.start.now c.args.plays.now
    (6 * c.loop-first.first + c.loop-second.second) c.index-plays-first.result within
    c.index-plays-first.is in
    let place : 6 * c.loop-first.first + c.loop-second.second + 1 ≡ 6 * c.loop-first.first + (
    c.loop-second.second + 1) =
    omega arith in
    omega (
      arith,
      c.loop-second.invariant,
      c.over_second_throws-total.ensures,
      next,
      ap (added_to (λ k. k) c.args.start.now c.args.plays.now) place,
    )

pub returns : goal.returns
returns c second later =
    let all : 6 * c.loop-first.first ≡ 36 = omega arith in
    c.loop-first.invariant ∙ ap (added_to (λ k. k) c.args.start.now c.args.plays.now) all
    ∙ added_to-total c.args.start.now c.args.plays.now second later
