use Rattle.std.proofs.Common.{◌≡◌, [], ◌∷◌, ◌++◌, get_or, take, length, sym, ap, ◌∙◌, refl, arith, add-one}
use Rattle.std.proofs.Common.{length-append, decimal}
use Rattle.std.proofs.lemmas.List.{take_all}
use Rattle.home_board.proofs.Written.{joined, joined_states, before_next, before_next-some}
use Rattle.home_board.proofs.Written.{joined-before_none, joined-taken, next_fits}
use Rattle.home_board.proofs.text.write_position.Goals as goal
use Rattle.home_board.proofs.text.write_position.Goals.{then-written-gt0, else-written-gt0}

pub push_str-requires : goal.push_str-requires
push_str-requires c =
    let fits =
    next_fits c.args.position.now c.loop-written.written c.count-count.ensures.position
    c.loop-written-test.true in
    let comma =
    before_next-some c.args.position.now c.loop-written.written c.if-written-gt0.true in (
      omega arith,
      omega (
        arith,
        ap length comma,
        ap length c.loop-written.invariant.text,
        length-append (joined (take c.loop-written.written c.args.position.now)) (44 ∷ []),
      ),
    )

-- the text before the count
before : (c : goal.After-format) →
    c.if-written-gt0.text.bytes ≡ before_next c.args.position.now c.loop-written.written
before c =
    elim c.if-written-gt0.branch [
      | then-written-gt0 w ↦
          ap (λ t. t.bytes) w.text-is
          ∙ (w.push_str.ensures.bytes
          ∙ (ap (λ bytes. bytes ++ 44 ∷ []) c.loop-written.invariant.text
          ∙ sym (before_next-some c.args.position.now c.loop-written.written
          w.if-written-gt0.true)))
      | else-written-gt0 w ↦
          ap (λ t. t.bytes) w.text-is
          ∙ (c.loop-written.invariant.text
          ∙ joined-before_none c.args.position.now c.loop-written.written
          w.if-written-gt0.false)
    ]

-- the text of the count
count_text : (c : goal.After-format) →
    c.format.result.now ≡ decimal (get_or c.args.position.now c.loop-written.written 0)
count_text c = c.format.ensures.text ∙ ap decimal (c.count-count.ensures.value ∙ rw add-one refl)

pub push_str-requires-in-loop-written : goal.push_str-requires-in-loop-written
push_str-requires-in-loop-written c =
    let fits =
    next_fits c.args.position.now c.loop-written.written c.count-count.ensures.position
    c.loop-written-test.true in
    (omega arith, omega (arith, ap length (before c), ap length (count_text c)))

pub loop-written-preserved : goal.loop-written-preserved
loop-written-preserved c =
    let next =
    joined-taken c.args.position.now c.loop-written.written c.count-count.ensures.position
    c.loop-written-test.true in
    record {
      text =
          c.push_str-in-loop-written.ensures.bytes
          ∙ rw (before c.before.before, count_text c.before.before) (sym next);
      position = λ _. c.count-count.ensures.position;
    }

pub returns : goal.returns
returns c =
    let is = c.loop-written.invariant.position (omega arith) in
    let all = take_all c.loop-written.written c.args.position.now (omega (arith, is.six)) in
    rw (c.loop-written.invariant.text, all) (joined_states c.args.position.now is)
