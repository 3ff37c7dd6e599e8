use Rattle.std.proofs.Common.{arith, ◌≡◌, ◌-◌, ◌<◌, ◌++◌, length, take, drop, ap, refl, sym, ◌∙◌, eqb-true}
use Rattle.std.proofs.lemmas.List.{append-nil}
use Rattle.std.proofs.lemmas.Bool.{eqb-false}
use Rattle.race_model.specs.Prelude.{checkers, number}
use Rattle.plain_model.proofs.RunLemmas.{all_runs-none, all_runs-finished, all_runs-on}
use Rattle.plain_model.proofs.RunLemmas.{from_points-none, one_more_point, from_points, from_one}
use Rattle.plain_model.proofs.RunLemmas.{from_nowhere}
use Rattle.plain_model.proofs.plays.+add_runs.Goals as goal
use Rattle.plain_model.proofs.plays.+add_runs.Goals.{then-is_empty-via-then-is_empty}
use Rattle.plain_model.proofs.plays.+add_runs.Goals.{then-is_empty-via-else-is_empty+then-is_finished}
use Rattle.plain_model.proofs.plays.+add_runs.Goals.{in-Some+in_ok-add_runs, in_default}

pub returns-then-is_empty : goal.returns-then-is_empty
returns-then-is_empty t c =
    elim c.then-is_empty.branch [
      | then-is_empty-via-then-is_empty w ↦
          c.in_ok-push.ensures.items
          ∙ ap (λ l. c.args.found.now.items ++ l)
          (sym (all_runs-none c.args.dice.now c.args.position.now
          (eqb-true _ _ (sym w.if-is_empty.ensures))))
      | then-is_empty-via-else-is_empty+then-is_finished w ↦
          c.in_ok-push.ensures.items
          ∙ ap (λ l. c.args.found.now.items ++ l)
          (sym (all_runs-finished c.args.dice.now c.args.position.now
          (w.is_finished.ensures.value.0 w.if-is_finished.true)))
    ]

pub loop-source-init : goal.loop-source-init
loop-source-init t c =
    sym (ap (λ l. c.args.found.now.items ++ l) (from_points-none _ _ _) ∙ append-nil _)

pub loop-source-preserved : goal.loop-source-preserved
loop-source-preserved t c =
    elim c.match-step.branch [
      | in-Some+in_ok-add_runs w ↦
          let rest = take (length c.args.dice.now - 1) (drop 1 c.args.dice.now) in
          let after =
          from_one rest w.in-Some.after c.loop-source.found.items w.add_runs.new.found.items
          w.in_ok-add_runs.ensures in
          rw w.found-is
          (one_more_point _ _ _ c.loop-source.source _ _ _ _ c.loop-source.auto.source
          w.in-Some.ensures.some c.loop-source.invariant after)
      | in_default w ↦
          let rest = take (length c.args.dice.now - 1) (drop 1 c.args.dice.now) in
          rw w.found-is
          (one_more_point rest _ _ c.loop-source.source _ _ _ _ c.loop-source.auto.source
          w.in_default.ensures.none c.loop-source.invariant (from_nowhere rest _ _ refl))
    ]

pub returns : goal.returns
returns t c =
    let apart = eqb-false _ _ (sym c.if-is_empty.ensures) in
    let some : 0 < length c.args.dice.now = omega arith in
    let all : c.loop-source.source - 1 ≡ 6 = omega arith in
    let left : checkers c.args.position.now ≡ 0 → ⊥ =
    λ done.
    let e = c.is_finished.ensures.value.1 done in let f = c.if-is_finished.false in cc in
    c.loop-source.invariant
    ∙ ap (λ l. c.args.found.now.items ++ l)
    (ap (λ n. from_points (take (length c.args.dice.now - 1) (drop 1 c.args.dice.now))
    c.args.position.now (number c.index-dice-0.result) 1 n) all
    ∙ sym
    (all_runs-on c.args.dice.now c.args.position.now c.index-dice-0.result some
    c.index-dice-0.is left c.is_finished.ensures.position.six))
