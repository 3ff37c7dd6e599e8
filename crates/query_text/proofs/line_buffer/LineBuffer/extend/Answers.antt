use Rattle.std.proofs.Common.{◌≡◌, ◌+◌, ◌-◌, ◌++◌, take, length, sym, ap, ◌∙◌, arith}
use Rattle.std.proofs.Math.Seq.{take-append-add}
use Rattle.std.proofs.lemmas.List.{take_min}
use Rattle.query_text.proofs.line_buffer.LineBuffer.extend.Goals as goal

pub returns : goal.returns
returns c =
    let kept = c.args.self.now in
    let bytes = c.args.bytes.now in
    let room = 130 - c.len-room.result in
    let same : c.self.inside.bytes.items ≡ kept = c.self.view_is in
    let long : 130 ≡ length kept + room = omega (arith, c.len-room.ensures, ap length same) in
    let told = rw c.unwrap.ensures at c.try_extend_from_slice.ensures.ok in
    told
    ∙ ap (λ k. k ++ take c.min-kept.result bytes) same
    ∙ ap (λ n. kept ++ take n bytes) c.min-kept.ensures
    ∙ ap (λ t. kept ++ t) (take_min room bytes)
    ∙ sym (take-append-add kept bytes room)
    ∙ ap (λ n. take n (kept ++ bytes)) (sym long)
