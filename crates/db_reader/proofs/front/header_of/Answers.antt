use Rattle.std.proofs.Common.{slice_index, ◌<◌, ℕ, length, take, ap, subst, ◌∙◌, arith}
use Rattle.race_model.specs.Prelude.{IsHeader, IsFirstHeaderFault, version_of, bound_of}
use Rattle.race_model.proofs.FirstFaults.HeaderFacts.{file_of_header, bound_of-front, version_of-front}
use Rattle.db_layout.specs.HeaderFaults.{test_of}
use Rattle.db_reader.proofs.front.header_of.Goals as goal

pub returns-in-Ok-clause-told : goal.returns-in-Ok-clause-told
returns-in-Ok-clause-told c = λ file front long.
    let is = c.in-Ok.ensures.header in
    let h : IsHeader (take 32 file) (length file) =
    subst (λ n. IsHeader (take 32 file) n) long
    (subst (λ f. IsHeader f c.args.size) front is.0) in
    record {
      file =
          file_of_header file
          (subst (λ f. (i : ℕ) → slice_index f i < 256) front
          (λ i. let fits = c.type_inv.front i in omega arith)) h;
      bound_is = is.1 ∙ (ap bound_of front ∙ bound_of-front file);
      version_is = is.2 ∙ (ap version_of front ∙ version_of-front file);
    }

pub returns-in-Err-clause-told : goal.returns-in-Err-clause-told
returns-in-Err-clause-told c = λ file front long.
    let is = c.in-Err.ensures.fault in
    subst (λ n. IsFirstHeaderFault (take 32 file) n (test_of c.in-Err.fault)) long
    (subst (λ f. IsFirstHeaderFault f c.args.size (test_of c.in-Err.fault)) front is)
