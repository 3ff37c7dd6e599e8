use Rattle.std.proofs.Common.{◌≡◌, ℕ, List, length, take, refl, ap, subst, ◌∙◌}
use Rattle.db_reader.specs.Reads.{HasHeader}
use Rattle.db_reader.proofs.Fronts.{take-within}
use Rattle.db_reader.proofs.whole.WholeTable.header.Goals as goal

pub invariant_of-self : goal.invariant_of-self
invariant_of-self c = record {
  fits = λ accepted is.
      let bytes = c.args.self.now.bytes.now in
      let has = c.in-Ok.ensures.told bytes
      (take-within bytes 32 c.min.result c.min.ensures) refl in
      let same : c.in-Ok.header ≡ accepted = cc in
      subst (HasHeader bytes) same has;
}

pub returns-in-Err-clause-told : goal.returns-in-Err-clause-told
returns-in-Err-clause-told c = λ file told.
    let bytes = c.args.self.now.bytes.now in
    let same : bytes ≡ file = cc in
    c.in-Err.ensures.told file
    (take-within bytes 32 c.min.result c.min.ensures ∙ ap (λ (f : List ℕ). take 32 f) same)
    (ap length same)
