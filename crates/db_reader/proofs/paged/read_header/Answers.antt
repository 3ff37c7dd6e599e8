use Rattle.std.proofs.Common.{◌≡◌, ℕ, min, take, length, length-take, sym, ap, ◌∙◌, arith, replicate}
use Rattle.db_reader.proofs.Fronts.{take-within}
use Rattle.db_reader.proofs.Pages.{succeeded}
use Rattle.db_reader.proofs.paged.read_header.Goals as goal

pub returns-clause-told : goal.returns-clause-told
returns-clause-told g c = λ file told.
    let long = c.in-Ok.ensures.told file told in
    let read = succeeded c.read_at.result (sym c.is_err.ensures.value ∙ c.if-is_err.false)
    (c.read_at.ensures.told file (c.length.ensures.stays ∙ told)) in
    let room : length (take c.min.result (replicate 32 0)) ≡ c.min.result =
    omega (arith, length-take {A = ℕ} c.min.result (replicate 32 0), c.min.ensures) in
    let within : c.min.result ≡ min (length file) 32 = c.min.ensures ∙ ap (λ n. min n 32) long in
    c.header_of.ensures.told file
    (read ∙ (ap (λ (n : ℕ). take n file) room ∙ take-within file 32 c.min.result within)) long
