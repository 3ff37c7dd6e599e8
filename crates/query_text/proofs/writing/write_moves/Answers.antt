use Rattle.std.proofs.Common.{◌≡◌, [], ◌∷◌, ◌++◌, take, drop, codes, arith, flat_map}
use Rattle.std.proofs.lemmas.List.{take_all}
use Rattle.std.proofs.lemmas.Result.{on_ok_weaker, on_err_weaker}
use Rattle.query_text.specs.Texts.{choice_text}
use Rattle.query_text.proofs.Held.{takes_twice, takes_same, takes_part, takes_and_written}
use Rattle.query_text.proofs.Held.{takes_and_part, part_same, part_longer, on_err_of}
use Rattle.query_text.proofs.Texts.{texts_split, texts_more}
use Rattle.query_text.proofs.writing.write_moves.Goals as goal

pub returns-in_err-write_choice-clause-part : goal.returns-in_err-write_choice-clause-part
returns-in_err-write_choice-clause-part g c =
    let cs = c.args.choices.now in
    let i = c.loop-choice.choice-index in
    let part =
    takes_part _ _ _ _ _ c.loop-choice.invariant.taken c.in_err-write_choice.ensures.part in
    on_err_of c.from_residual.result (part_same _ _ _ _
    (texts_split choice_text (codes "moves") (10 ∷ []) cs i)
    (part_longer _ _ (codes "moves" ++ flat_map choice_text (take i cs))
    (flat_map choice_text (drop i cs) ++ 10 ∷ []) part))

pub loop-choice-preserved : goal.loop-choice-preserved
loop-choice-preserved g c =
    let cs = c.args.choices.now in
    let i = c.loop-choice.choice-index in
    let told = c.in_ok-write_choice.ensures {u = tt} in
    record {
      taken = takes_same _ _ _ _ _ _
          (texts_more choice_text (codes "moves") cs i c.choice-item.result
          (omega arith) c.choice-item.is)
          (takes_twice _ _ _ _ _ _ _ _ c.loop-choice.invariant.taken told.all);
      len = told.len;
    }

pub returns-clause-all : goal.returns-clause-all
returns-clause-all g c =
    let all : take c.loop-choice.choice-index c.args.choices.now ≡ c.args.choices.now =
    take_all c.loop-choice.choice-index c.args.choices.now (omega arith) in
    let taken = rw all at c.loop-choice.invariant.taken in
    on_ok_weaker c.write_line.result (λ h. takes_and_written _ _ _ _ _
    (10 ∷ []) taken h) c.write_line.ensures.all

pub returns-clause-part : goal.returns-clause-part
returns-clause-part g c =
    let all : take c.loop-choice.choice-index c.args.choices.now ≡ c.args.choices.now =
    take_all c.loop-choice.choice-index c.args.choices.now (omega arith) in
    let taken = rw all at c.loop-choice.invariant.taken in
    on_err_weaker c.write_line.result (λ h. takes_and_part _ _ _ _ _
    (10 ∷ []) taken h) c.write_line.ensures.part
