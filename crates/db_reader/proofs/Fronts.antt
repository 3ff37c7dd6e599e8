-- The first 32 bytes of a file, or all where there are fewer.
use Rattle.std.proofs.Common.{◌≡◌, ⊎_elim, ℕ, min, List, take, length, sym, ap, ◌∙◌, arith}
use Rattle.std.proofs.lemmas.Bool.{cases_lt}
use Rattle.std.proofs.lemmas.List.{take_all}

-- taking 32 bytes, or as many as there are
pub take-within : (f : List ℕ) (n k : ℕ) → k ≡ min (length f) n → take k f ≡ take n f
take-within f n k is = ⊎_elim
    (λ less. take_all k f (omega arith) ∙ sym (take_all n f (omega arith)))
    (λ more. let same : k ≡ n = omega arith in ap (λ m. take m f) same)
    (cases_lt (length f) n)
