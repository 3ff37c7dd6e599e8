-- Bytes that begin as the built file does, and how they grow by a record.
use Rattle.std.proofs.Common.{◌≡◌, ℕ, ◌+◌, ◌<◌, ◌≤◌, List, ◌++◌, length, take}
use Rattle.std.proofs.Common.{sym, ap, subst, ◌∙◌}
use Rattle.std.proofs.lemmas.List.{append-nil}
use Rattle.race_model.specs.Prelude.{pips, at_rank, count_to, Version, greatest_bound, header, record_place, IsBuilt}
use Rattle.race_model.proofs.RightFiles.Places.{length_at, record_place-first}
use Rattle.db_layout.specs.Records.{record_of}
use Rattle.db_layout.specs.WholeFiles.{records_from}
use Rattle.db_layout.proofs.WholeFiles.{records-next}
use Rattle.retrograde.specs.AllRecords.{AllRecords, mean_of_rank, plays_of_rank, bytes_of_rank}
use Rattle.retrograde.specs.BuiltBytes.{built_to}
use Rattle.retrograde.specs.KeptRecords.{IsRecordOfRank}
use Rattle.retrograde.proofs.BuiltFiles.{is-built}

-- the bytes of the record of a rank
pub bytes-of_record : (version : Version) (full : AllRecords) (r mean : ℕ) (plays shares : List ℕ) →
    IsRecordOfRank full r mean plays shares →
    record_of version (pips (at_rank r)) mean plays shares ≡ bytes_of_rank version full r
bytes-of_record version full r mean plays shares is =
    let p = pips (at_rank r) in
    ap (λ (m : ℕ). record_of version p m plays shares) is.mean_is
    ∙ ap (λ (ps : List ℕ). record_of version p (mean_of_rank full r) ps shares) is.plays_are
    ∙ ap
    (λ (xs : List ℕ). record_of version p (mean_of_rank full r) (plays_of_rank full r) xs)
    is.shares_are

-- their number
pub length-bytes_of_rank : (version : Version) (full : AllRecords) (r : ℕ) → r < count_to 58 →
    length (bytes_of_rank version full r) ≡ length_at version r
length-bytes_of_rank version full r under = (full.made.reads r under version).len

-- the header alone
pub begins-first : (version : Version) (full : AllRecords) (bound : ℕ) (f : List ℕ) →
    take 32 f ≡ header version bound →
    take (record_place version 0) f ≡ built_to version full bound 0
unfolding records_from
begins-first version full bound f headed =
    ap (λ n. take n f) (record_place-first version)
    ∙ headed
    ∙ sym (append-nil (header version bound))

-- records up to a rank, and that of the next one
pub and-record : (each : ℕ → List ℕ) (r i : ℕ) (front bytes new : List ℕ) → new ≡ front ++ bytes →
    front ≡ records_from each r i → bytes ≡ each (r + i) → new ≡ records_from each r (i + 1)
and-record each r i front bytes new new_is front_is is =
    new_is
    ∙ ap (λ (bs : List ℕ). bs ++ bytes) front_is
    ∙ ap (λ (bs : List ℕ). records_from each r i ++ bs) is
    ∙ sym (records-next each r i)

-- bytes that begin with all records begin with the built file
pub begins-built : (version : Version) (full : AllRecords) (bound n : ℕ) (f : List ℕ) →
    bound ≤ greatest_bound version → n ≡ count_to bound →
    take (record_place version n) f ≡ built_to version full bound n →
    IsBuilt version bound (take (record_place version n) f)
begins-built version full bound n f low all begins =
    subst (IsBuilt version bound) (sym (begins ∙ ap (built_to version full bound) all))
    (is-built version full bound low)
