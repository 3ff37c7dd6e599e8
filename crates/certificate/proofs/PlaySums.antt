-- The shares that a record tells, as a list.
use Rattle.std.proofs.Common.{◌≡◌, ◌⊎◌, inl, inr, ⊎_elim, Bool, true, false, IsTrue, ℕ, ◌<◌, ◌≤◌}
use Rattle.std.proofs.Common.{List, Option, Some, None, IsSome, length, get_or}
use Rattle.std.proofs.Common.{refl, sym, subst, ◌∙◌, arith}
use Rattle.std.proofs.lemmas.Bool.{cases_lt, false≢true}
use Rattle.std.proofs.lemmas.List.{get_or_past, length-map}
use Rattle.std.proofs.lemmas.List.FromFn.{get_or-map-range_with_len}
use Rattle.std.specs.List.{range_with_len}
use Rattle.race_model.specs.Prelude.{record_at, share_of}
use Rattle.db_layout.specs.StoredShares.{share_by}
use Rattle.db_layout.specs.declared.stored_shares.StoredShares.{StoredShares}
use Rattle.db_reader.specs.Telling.{WhereTold}
use Rattle.certificate.specs.PlaySums.{told_by, IsAccepted}
use Rattle.certificate.specs.RecordNumbers.{shares_of}
use Rattle.certificate.proofs.RecordBytes.{are_shares}

-- there are 23
pub length-told_by : (stored : StoredShares) → length (told_by stored) ≡ 23
unfolding told_by
length-told_by stored = length-map (range_with_len 0 23) (share_by stored)

-- one of them
pub get_or-told_by : (stored : StoredShares) (k : ℕ) → k < 23
    → get_or (told_by stored) k 0 ≡ share_by stored k
unfolding told_by
get_or-told_by stored k lt =
    get_or-map-range_with_len (share_by stored) 0 23 k k 0 (omega arith) (omega arith)

-- none is told beyond
pub told_by-none : (stored : StoredShares) (k : ℕ) → (k ≤ 22 → share_by stored k ≡ 0)
    → get_or (told_by stored) k 0 ≡ 0
told_by-none stored k none = ⊎_elim
    (λ less. get_or-told_by stored k less ∙ none (omega (arith, less)))
    (λ past. get_or_past (told_by stored) k 0 (omega (arith, past, length-told_by stored)))
    (cases_lt k 23)

-- they are those of a record where each is
pub told_by-same : (stored : StoredShares) (bytes : List ℕ)
    → ((k : ℕ) → k ≤ 22 → share_by stored k ≡ share_of bytes k) → told_by stored ≡ shares_of bytes
told_by-same stored bytes same =
    are_shares (told_by stored) bytes (length-told_by stored)
    (λ k lt. get_or-told_by stored k lt ∙ same k (omega (arith, lt)))

-- a test passes or not
pub passes_or_not : (b : Bool) → IsTrue b ⊎ ¬ IsTrue b
passes_or_not true = inl refl
passes_or_not false = inr (λ e. absurd (false≢true e))

-- what holds of each list that is told holds where there is one
pub told-then : (told : Option (List ℕ)) (P : Type 0) → IsSome told
    → ((file : List ℕ) → told ≡ Some file → P) → P
told-then (Some file) P is by = by file refl
told-then None P is by = absurd (false≢true is)

-- the record of a play is as an accepted one is, where the table tells its bytes
pub lent-accepted : (told : Option (List ℕ)) (Known : Type 0) (r : ℕ) (bytes : List ℕ)
    → (Known → IsSome told) → WhereTold told (λ file. IsAccepted (record_at file r))
    → WhereTold told (λ file. bytes ≡ record_at file r) → Known → IsAccepted bytes
lent-accepted told Known r bytes some are is known =
    told-then told (IsAccepted bytes) (some known)
    (λ file e. subst IsAccepted (sym (is file e)) (are file e))
