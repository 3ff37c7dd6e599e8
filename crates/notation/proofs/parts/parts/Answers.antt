use Rattle.std.proofs.Common.{◌≡◌, ◌<◌, length, map, take, get_or}
use Rattle.std.proofs.Common.{arith, rules, tests, sym, ap, ◌∙◌, eqb-true}
use Rattle.std.specs.List.{filter, slice_split}
use Rattle.std.proofs.lemmas.List.{length_push, take_all, length-map, map-append}
use Rattle.std.proofs.lemmas.Iterator.Splits.{YieldsList-from_slice_split}
use Rattle.std.proofs.lemmas.Iterator.Consumers.{YieldsList-turn, YieldsList-end}
use Rattle.notation.specs.Parts.{is_gap, is_part}
use Rattle.notation.proofs.Pieces.{kept, unneeded, no_room}
use Rattle.notation.proofs.parts.parts.Goals as goal
use Rattle.notation.proofs.parts.parts.Goals.{In-Some, In-None, else-is_part-via-then-is_part+else-not-is_full}
use Rattle.notation.proofs.parts.parts.Goals.{else-is_part-via-else-is_part}

-- the loop goes over the pieces of the text, and this one is next
next_part : (c : In-Some) → (length c.loop-part.yielded
    < length (slice_split (is_gap c.args.has_labels) c.args.text.now))
    × (c.in-Some.part.now
    ≡ get_or (slice_split (is_gap c.args.has_labels) c.args.text.now) (length c.loop-part.yielded)
    c.in-Some.part.now)
next_part c =
    YieldsList-turn
    (YieldsList-from_slice_split {s = c.into_iter-part-iterator.result} _
    (is_gap c.args.has_labels)
    c.args.text.now
    (rw c.into_iter-part-iterator.ensures.into_iter_gives c.split-part-items.ensures.rest)
    (rw c.into_iter-part-iterator.ensures.into_iter_gives c.split-part-items.ensures.done)
    (ap (λ s. s.pred) c.into_iter-part-iterator.ensures.into_iter_gives
    ∙ c.split-part-items.ensures.closure)
    (λ x r q k. search (rules, tests)))
    c.loop-part.yielded _ c.loop-part.yielded_by _ _ c.in-Some.part c.in-Some.is
    c.next.ensures.steps

-- as many pieces as the loop went over are all
no_part_left : (c : In-None) → length c.loop-part.yielded
    ≡ length (slice_split (is_gap c.args.has_labels) c.args.text.now)
no_part_left c =
    (YieldsList-end
    (YieldsList-from_slice_split {s = c.into_iter-part-iterator.result} _
    (is_gap c.args.has_labels)
    c.args.text.now
    (rw c.into_iter-part-iterator.ensures.into_iter_gives c.split-part-items.ensures.rest)
    (rw c.into_iter-part-iterator.ensures.into_iter_gives c.split-part-items.ensures.done)
    (ap (λ s. s.pred) c.into_iter-part-iterator.ensures.into_iter_gives
    ∙ c.split-part-items.ensures.closure)
    (λ x r q k. search (rules, tests)))
    c.loop-part.yielded _ c.loop-part.yielded_by _ _ c.in-None.is c.next.ensures.steps).1

pub loop-part-preserved-then-not-is_full : goal.loop-part-preserved-then-not-is_full
loop-part-preserved-then-not-is_full c =
    let t = next_part (goal.at.loop-part-preserved-then-not-is_full c).In-Some in
    let items = map (λ part. part.now) c.loop-part.parts.items in
    rw (c.push.ensures.items, map-append, length_push c.loop-part.yielded c.in-Some.part)
    (kept (is_part c.args.has_labels)
    (slice_split (is_gap c.args.has_labels) c.args.text.now) items
    (length c.loop-part.yielded) c.in-Some.part.now t.0 (sym (c.if-is_part.ensures {u = tt})) t.1
    (λ e. let full = sym (length-map c.loop-part.parts.items (λ part. part.now)) ∙ e in
    let bad = rw full at (c.if-not-is_full.ensures {u = tt}).value in cc) c.loop-part.invariant)

pub loop-part-preserved : goal.loop-part-preserved
loop-part-preserved c =
    let t = next_part (goal.at.loop-part-preserved c).In-Some in
    let pieces = slice_split (is_gap c.args.has_labels) c.args.text.now in
    let items = map (λ part. part.now) c.loop-part.parts.items in
    rw (length_push c.loop-part.yielded c.in-Some.part)
    (elim c.else-is_part.branch [
      | else-is_part-via-then-is_part+else-not-is_full w ↦
          no_room (is_part c.args.has_labels) pieces items
          (length c.loop-part.yielded) c.in-Some.part.now t.0
          (length-map c.loop-part.parts.items _
          ∙ eqb-true _ _ (sym w.is_full.ensures.value ∙ w.if-not-is_full.false))
          c.loop-part.invariant
      | else-is_part-via-else-is_part w ↦
          unneeded (is_part c.args.has_labels) pieces items
          (length c.loop-part.yielded) c.in-Some.part.now t.0
          (sym c.is_part.ensures ∙ w.if-is_part.false) t.1 c.loop-part.invariant
    ])

pub returns : goal.returns
returns c =
    let e = no_part_left (goal.at.returns c).In-None in
    c.loop-part.invariant
    ∙ ap (λ parts. take 11 (filter (is_part c.args.has_labels) parts))
    (take_all _ _ (omega (arith, e)))
