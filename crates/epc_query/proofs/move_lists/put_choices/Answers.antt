use Rattle.std.proofs.Common.{ℕ, List, get_or, codes, subst, ◌∙◌, arith}
use Rattle.std.proofs.lemmas.List.{get_or_default}
use Rattle.query_text.proofs.Parts.{no_parts, one_more_part}
use Rattle.epc_query.specs.declared.choices.RankedChoice.{RankedChoice}
use Rattle.epc_query.specs.Lists.{IsPartOf}
use Rattle.epc_query.proofs.Lists.{list_of_parts}
use Rattle.epc_query.proofs.move_lists.put_choices.Goals as goal

-- the part of the choice of a place
IsPartAt : List RankedChoice → ℕ → List ℕ → Type 0
IsPartAt choices i part =
    (d : RankedChoice) →
    IsPartOf (get_or choices i d) part

pub loop-choice-init : goal.loop-choice-init
unfolding IsPartAt
loop-choice-init c = record {
  parts = rw c.put_moves.ensures.text
      (no_parts (IsPartAt c.args.choices.now) (codes "moves"));
  len = omega (arith, c.put_moves.ensures.len);
}

pub put_next-requires : goal.put_next-requires
put_next-requires c =
    omega (
      arith,
      c.loop-choice.invariant.len,
    )

pub loop-choice-preserved : goal.loop-choice-preserved
unfolding IsPartAt
loop-choice-preserved c =
    let choices = c.args.choices.now in
    let i = c.loop-choice.choice-index in
    let part = c.put_next.ensures.part in
    record {
      parts = one_more_part (IsPartAt choices) i (codes "moves") c.loop-choice.text.bytes
          c.put_next.new.text.bytes part.0 c.loop-choice.invariant.parts
          (λ d. subst (λ choice. IsPartOf choice part.0)
          (c.choice-item.is
          ∙ get_or_default choices i c.choice-item.result d c.loop-choice-test.true) part.1)
          part.2;
      len = omega (arith, c.put_next.ensures.len, c.loop-choice.invariant.len);
    }

pub returns-clause-text : goal.returns-clause-text
returns-clause-text c =
    list_of_parts c.args.choices.now c.loop-choice.choice-index
    c.loop-choice.text.bytes (omega arith) c.loop-choice.invariant.parts

pub returns-clause-len : goal.returns-clause-len
returns-clause-len c =
    omega (
      arith,
      c.loop-choice.invariant.len,
    )
