use Rattle.std.proofs.Common.{◌≡◌, ◌<◌, ◌==◌, None, [], ◌∷◌, ◌++◌, List, ℕ, length, map, take, get_or}
use Rattle.std.proofs.Common.{arith, rules, tests, sym, ap, ◌∙◌}
use Rattle.std.proofs.lemmas.Bool.{eqb-true}
use Rattle.std.proofs.lemmas.List.{length_push, take_all, length-map, map-append}
use Rattle.std.proofs.lemmas.Iterator.Splits.{YieldsList-from_slice_split}
use Rattle.std.proofs.lemmas.Iterator.Consumers.{YieldsList-turn, YieldsList-end}
use Rattle.race_model.specs.Prelude.{count_value}
use Rattle.home_board.proofs.Counts.{listed_six, capped}
use Rattle.home_board.proofs.Texts.{parts, length-values, no_refused, states_more}
use Rattle.home_board.proofs.text.parse_counts.Goals as goal
use Rattle.home_board.proofs.text.parse_counts.Goals.{In-Some, In-None}

-- the loop goes over the parts of the text, and this one is next
next_part : (c : In-Some) → (length c.loop-part.yielded < length (parts c.args.text.now))
    × (c.in-Some.part.now
    ≡ get_or (parts c.args.text.now) (length c.loop-part.yielded) c.in-Some.part.now)
next_part c =
    YieldsList-turn
    (YieldsList-from_slice_split {s = c.into_iter-part-iterator.result} _ (λ b. b == 44)
    c.args.text.now
    (rw c.into_iter-part-iterator.ensures.into_iter_gives
    c.split-part-items.ensures.rest)
    (rw c.into_iter-part-iterator.ensures.into_iter_gives
    c.split-part-items.ensures.done)
    (rw c.into_iter-part-iterator.ensures.into_iter_gives
    c.split-part-items.ensures.closure) (λ x r q k. search (rules, tests)))
    c.loop-part.yielded _ c.loop-part.yielded_by _ _ c.in-Some.part c.in-Some.is
    c.next.ensures.steps

-- where no part is next, the parts are those that the loop went over
no_part_left : (c : In-None) → (map (λ part. part.now) c.loop-part.yielded ≡ parts c.args.text.now)
    × (length c.loop-part.yielded ≡ length (parts c.args.text.now))
no_part_left c =
    YieldsList-end
    (YieldsList-from_slice_split {s = c.into_iter-part-iterator.result} _ (λ b. b == 44)
    c.args.text.now
    (rw c.into_iter-part-iterator.ensures.into_iter_gives
    c.split-part-items.ensures.rest)
    (rw c.into_iter-part-iterator.ensures.into_iter_gives
    c.split-part-items.ensures.done)
    (rw c.into_iter-part-iterator.ensures.into_iter_gives
    c.split-part-items.ensures.closure) (λ x r q k. search (rules, tests)))
    c.loop-part.yielded _ c.loop-part.yielded_by _ _ c.in-None.is c.next.ensures.steps

pub returns-in_err-count-clause-none : goal.returns-in_err-count-clause-none
returns-in_err-count-clause-none c = λ _ counts is.
    let t = next_part (goal.at.returns-in_err-count-clause-none c).In-Some in
    let refused : count_value (get_or (parts c.args.text.now) (length c.loop-part.yielded)
    c.in-Some.part.now) ≡ None =
    rw (← t.1) (sym c.parse_count.ensures ∙ c.in_err-count.was {u = tt}) in
    no_refused (parts c.args.text.now) counts (length c.loop-part.yielded) c.in-Some.part.now
    is.each t.0 refused

pub loop-part-preserved : goal.loop-part-preserved
loop-part-preserved c =
    let t = next_part (goal.at.loop-part-preserved c).In-Some in
    let told = c.loop-part.invariant.told in
    let states =
    states_more (parts c.args.text.now) told (length c.loop-part.yielded)
    c.in_ok-count.count c.in-Some.part.now c.loop-part.invariant.states t.0
    (rw (← t.1) (sym c.parse_count.ensures ∙ c.in_ok-count.was {u = tt})) in
    record {
      told = told ++ c.in_ok-count.count ∷ [];
      states = rw (length_push c.loop-part.yielded c.in-Some.part) states;
      as_many =
          omega (
            arith,
            length_push c.loop-part.yielded c.in-Some.part,
            length_push told c.in_ok-count.count,
            c.loop-part.invariant.as_many,
          );
      kept = rw (c.push.ensures.items, c.capped.ensures, c.loop-part.invariant.kept)
          (sym (map-append _ told (c.in_ok-count.count ∷ [])));
    }

-- where six counts are kept, as many parts were gone over
six_parts : (told counts : List ℕ) → counts ≡ capped told → length counts ≡ 6 → length told ≡ 6
six_parts told counts kept six = sym (length-map told _) ∙ sym (ap length kept) ∙ six

pub returns-then-is_full-clause-none : goal.returns-then-is_full-clause-none
returns-then-is_full-clause-none c = λ _ counts is.
    let t = next_part (goal.at.returns-then-is_full-clause-none c).In-Some in
    let wanted = length-values (parts c.args.text.now) counts is.each in
    let six = six_parts c.loop-part.invariant.told c.loop-part.counts.items
    c.loop-part.invariant.kept (eqb-true _ _ (sym c.if-is_full.ensures.value)) in
    omega (arith, is.six, wanted, six, t.0, c.loop-part.invariant.as_many)

pub returns-in-len6-clause-read : goal.returns-in-len6-clause-read
returns-in-len6-clause-read c =
    let e = no_part_left (goal.at.returns-in-len6-clause-read c).In-None in
    let six : length c.as_slice.result.now ≡ 6 =
    omega (arith, c.in-len6.len_at_least, c.in-len6.len_below) in
    let told = c.loop-part.invariant.told in
    let kept = c.as_slice.ensures.value ∙ c.loop-part.invariant.kept in
    let all : take (length c.loop-part.yielded) (parts c.args.text.now) ≡ parts c.args.text.now =
    take_all (length c.loop-part.yielded) (parts c.args.text.now) (omega (arith, e.1)) in (
      told,
      record {
        six = six_parts told c.as_slice.result.now kept six;
        each = sym (ap (map count_value) all) ∙ c.loop-part.invariant.states;
      },
      listed_six c.as_slice.result.now six ∙ kept,
    )

pub returns-in_default-clause-none : goal.returns-in_default-clause-none
returns-in_default-clause-none c = λ _ counts is.
    let e = no_part_left (goal.at.returns-in_default-clause-none c).In-None in
    let wanted = length-values (parts c.args.text.now) counts is.each in
    let kept = ap length (c.as_slice.ensures.value ∙ c.loop-part.invariant.kept)
    ∙ length-map c.loop-part.invariant.told _ in
    omega (arith, is.six, wanted, e.1, kept, c.loop-part.invariant.as_many, c.in_default.len_below)
