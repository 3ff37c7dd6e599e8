use Rattle.std.proofs.Common.{◌<◌, ◌++◌, codes, length, ap, ◌∙◌, sym, append_assoc, arith}
use Rattle.std.proofs.lemmas.Bool.{eqb-false}
use Rattle.std.proofs.lemmas.List.{length-map}
use Rattle.race_model.specs.Prelude.{move_text}
use Rattle.legal_plays.specs.MoveLists.{move_of, moves_of}
use Rattle.query_text.proofs.Texts.{spaces_before}
use Rattle.query_text.proofs.text.push_play.Goals as goal

pub returns-clause-bytes : goal.returns-clause-bytes
returns-clause-bytes c =
    let moves = moves_of c.args.play.now.items in
    let none = eqb-false _ _ (sym c.if-is_empty.ensures) in
    let some : 0 < length moves = omega (arith, length-map c.args.play.now.items move_of) in
    c.push_str-2.ensures.bytes
    ∙ rw (c.push_str.ensures.bytes, c.as_str.ensures.value, c.write_play.ensures)
    (append_assoc c.args.text.now.bytes (codes " ") _ ∙ ap (λ t. c.args.text.now.bytes ++ t)
    (spaces_before move_text moves some))
