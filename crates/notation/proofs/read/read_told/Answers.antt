use Rattle.std.proofs.Common.{false, ap, sym, take, refl, ◌∙◌}
use Rattle.std.proofs.lemmas.List.{length-map}
use Rattle.std.proofs.lemmas.Str.Ascii.{trim_ascii_is}
use Rattle.notation.specs.Parts.{parts}
use Rattle.notation.specs.Readings.{bare}
use Rattle.notation.proofs.Tellings.{tells_xgid, tells_ids}
use Rattle.notation.proofs.read.read_told.Goals as goal

pub returns-then-len-eq10 : goal.returns-then-len-eq10
returns-then-len-eq10 c =
    let trimmed =
    trim_ascii_is c.args.text.now c.trim_ascii.result.now _ refl c.trim_ascii.ensures.value in
    let kept = c.parts-fields.ensures
    ∙ ap (λ t. take 11 (parts false t)) (c.bare.ensures ∙ ap bare trimmed) in
    tells_xgid c.args.text.now c.read_xgid.result _ kept
    (length-map c.parts-fields.result.items _ ∙ sym c.len.ensures.value ∙ c.if-len-eq10.true)
    (rw (← c.as_slice.ensures.value) c.read_xgid.ensures)

pub returns : goal.returns
returns c =
    let trimmed =
    trim_ascii_is c.args.text.now c.trim_ascii.result.now _ refl c.trim_ascii.ensures.value in
    let kept = c.parts-fields.ensures
    ∙ ap (λ t. take 11 (parts false t)) (c.bare.ensures ∙ ap bare trimmed) in
    tells_ids c.args.text.now c.read_ids.result _ _ kept
    (λ ten. c.if-len-eq10.false
    (c.len.ensures.value ∙ sym (length-map c.parts-fields.result.items _) ∙ ten))
    c.parts-words.ensures (rw (← c.as_slice-2.ensures.value) c.read_ids.ensures)
