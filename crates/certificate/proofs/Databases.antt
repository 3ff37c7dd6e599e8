-- Calls after one another, and what they leave of a database.
use Rattle.std.proofs.Common.{◌≡◌, subst, ◌∙◌, refl}
use Rattle.db_reader.specs.Telling.{WhereTold, RoseWhere}
use Rattle.db_reader.proofs.Failures.{rose_nowhere, rose_then, rose_as}
use Rattle.certificate.specs.Databases.{Database, Stays}

-- no call leaves it as it is
pub stays_first : (d : Database) → Stays d d ⊥
stays_first d = record {
  told = refl;
  bound = refl;
  version = refl;
  cause = λ _ _. rose_nowhere _;
}

-- two calls leave it as it is where no read failed in the first
pub stays_then : {a b c : Database} {One Two : Type 0} → Stays a b One → ¬ One → Stays b c Two
    → Stays a c Two
stays_then first fine second = record {
  told = second.told ∙ first.told;
  bound = second.bound ∙ first.bound;
  version = second.version ∙ first.version;
  cause = λ file t. rose_then (first.cause file t) fine (second.cause file (first.told ∙ t));
}

-- a read failed where something else holds that is the same
pub stays_as : {a b : Database} {One Two : Type 0} → Stays a b One → (Two → One) → (One → Two)
    → Stays a b Two
stays_as stays into back = record {
  told = stays.told;
  bound = stays.bound;
  version = stays.version;
  cause = λ file t. rose_as (stays.cause file t) into back;
}

-- none failed in two calls
pub stays_more : {a b c : Database} {One : Type 0} → Stays a b ⊥ → Stays b c One → ¬ One
    → Stays a c ⊥
stays_more first second fine =
    stays_then first (λ no. no) (stays_as second (λ no. absurd no) fine)

-- a call by what it leaves of the database that is seen
pub stays_seen : {old seen new : Database} {Failed : Type 0} → seen ≡ old
    → new.told ≡ seen.told → new.bound ≡ seen.bound → new.version ≡ seen.version
    → WhereTold seen.told (λ _. RoseWhere Failed seen.failures new.failures)
    → Stays old new Failed
stays_seen {old} {seen} {new} {Failed} same told bound version cause =
    subst (λ d. Stays d new Failed) same (record {
      told = told;
      bound = bound;
      version = version;
      cause = cause;
    })
