-- The records of told bytes that are kept, when one is looked up and when one is put among them.
use Rattle.std.proofs.Common.{◌≡◌, ⊎_elim, ℕ, List, Contains, Option, Some, None, Result, Ok, Err, OnOk, OnErr, refl}
use Rattle.std.proofs.Common.{sym, ap, subst, ◌∙◌, eqb, false}
use Rattle.std.specs.Option.{IsSomeAnd}
use Rattle.std.specs.Result.{is_err}
use Rattle.std.specs.Map.{lookup}
use Rattle.std.proofs.lemmas.Bool.{eqb-true}
use Rattle.lru.specs.LruCache.{LruCache, lru_cache, promoted, put_entries}
use Rattle.lru.proofs.CallerLemmas.{Contains-lookup, Contains-promoted, Contains-put_entries}
use Rattle.race_model.specs.Prelude.{record_at}

-- each is the record of its rank
abbrev pub AreRecords : List ℕ → List (ℕ × List ℕ) → Type 0
AreRecords file entries =
    (rank : ℕ) (bytes : List ℕ) → Contains entries (rank, bytes) → bytes ≡ record_at file rank

-- a look-up moves one to the front
pub looked_up : (file : List ℕ) (entries : List (ℕ × List ℕ)) (rank : ℕ) → AreRecords file entries
    → AreRecords file (promoted (eqb rank) entries)
looked_up file entries rank are other bytes has =
    are other bytes (Contains-promoted (eqb rank) entries (other, bytes) has)

-- what is found is the record
pub found : (file : List ℕ) (entries : List (ℕ × List ℕ)) (rank : ℕ) (bytes : List ℕ) →
    AreRecords file entries
    → lookup (eqb rank) entries ≡ Some bytes → bytes ≡ record_at file rank
found file entries rank bytes are is =
    let entry = Contains-lookup (eqb rank) entries bytes is in
    are entry.0 bytes entry.1 ∙ ap (record_at file) (sym (eqb-true rank entry.0 entry.2))

-- the record is put there
put_there : (file : List ℕ) (cache : LruCache ℕ (List ℕ)) (rank : ℕ) (bytes : List ℕ)
    → AreRecords file cache.entries → bytes ≡ record_at file rank →
    AreRecords file (put_entries eqb cache rank bytes)
put_there file cache rank bytes are is other others has = ⊎_elim
    (λ was. are other others was)
    (λ new. new.0 ∙ (is ∙ ap (record_at file) (⊎_elim
    (λ same. sym same)
    (λ equal. eqb-true rank other equal.2)
    new.1)))
    (Contains-put_entries eqb cache rank bytes (other, others) has)

-- the record is put there, or is not, where the growth for it is refused
pub after_put : {T E : Type 0} (file : List ℕ) (cache after : LruCache ℕ (List ℕ)) (rank : ℕ)
    (bytes : List ℕ)
    (result : Result T E) →
    OnOk result (after ≡ lru_cache (put_entries eqb cache rank bytes) cache.cap)
    → OnErr result (after ≡ cache) → AreRecords file cache.entries → bytes ≡ record_at file rank
    → AreRecords file after.entries
after_put file cache after rank bytes (Ok old) put kept are is =
    subst (λ (c : LruCache ℕ (List ℕ)). AreRecords file c.entries) (sym put)
    (put_there file cache rank bytes are is)
after_put file cache after rank bytes (Err e) put kept are is =
    subst (λ (c : LruCache ℕ (List ℕ)). AreRecords file c.entries) (sym kept) are

-- what holds on success holds where there was no error
pub succeeded : {T E P : Type 0} (r : Result T E) → is_err r ≡ false → OnOk r P → P
succeeded (Ok x) fine p = p
succeeded (Err e) fine p = cc
