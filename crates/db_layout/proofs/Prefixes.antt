-- What was written of a whole file, part by part.
use Rattle.std.proofs.Common.{◌≡◌, ℕ, zero, suc, ◌+◌, ◌-◌, ◌≤◌, List, [], ◌∷◌, ◌++◌, Option, length}
use Rattle.std.proofs.Common.{take, refl, sym, ap, subst, ◌∙◌, arith, append_assoc}
use Rattle.std.specs.Io.KnownBytes.{Appends}
use Rattle.std.proofs.lemmas.List.{append-nil}
use Rattle.std.proofs.Math.Seq.{take-append_seam}
use Rattle.race_model.specs.Prelude.{Version, header}
use Rattle.db_layout.specs.Writes.{AppendsPart}
use Rattle.db_layout.specs.WholeFiles.{records_from, file_of}
use Rattle.db_layout.proofs.Known.{appends_twice}
use Rattle.db_layout.proofs.WholeFiles.{records-split}

-- a prefix of a front of bytes is one of these bytes
take-front : {X : Type 0} (k : ℕ) (xs ys : List X) → (m : ℕ) × (take k xs ≡ take m (xs ++ ys))
take-front zero xs ys = (0, refl)
take-front (suc k) [] ys = (0, refl)
take-front (suc k) (x ∷ xs) ys =
    let rest = take-front k xs ys in
    (suc rest.0, ap (λ zs. x ∷ zs) rest.1)

-- a prefix after a front
take-behind : {X : Type 0} (k : ℕ) (xs ys : List X) →
    (m : ℕ) × (xs ++ take k ys ≡ take m (xs ++ ys))
take-behind k [] ys = (k, refl)
take-behind k (x ∷ xs) ys =
    let rest = take-behind k xs ys in
    (suc rest.0, ap (λ zs. x ∷ zs) rest.1)

-- bytes that grow by a front and then by a prefix of what comes next have grown by a prefix of all
pub part-behind : (old mid new : Option (List ℕ)) (front next rest : List ℕ) →
    Appends old mid front
    → AppendsPart mid new next → AppendsPart old new (front ++ (next ++ rest))
part-behind old mid new front next rest before part =
    let first = take-front part.0 next rest in
    let all = take-behind first.0 front (next ++ rest) in
    let both = appends_twice old mid new front (take part.0 next) before part.1 in (
      all.0,
      subst (λ (bs : List ℕ). Appends old new bs)
          (ap (λ (bs : List ℕ). front ++ bs) first.1 ∙ all.1) both,
    )

-- bytes that grow by a front alone have grown by a prefix of it and more
front-part : (old new : Option (List ℕ)) (front rest : List ℕ) → Appends old new front
    → AppendsPart old new (front ++ rest)
front-part old new front rest all = (
  length front,
  subst (λ (bs : List ℕ). Appends old new bs) (sym (take-append_seam front rest)) all,
)

-- no byte is a prefix of any
pub nothing-part : (old new : Option (List ℕ)) (bytes : List ℕ) → Appends old new [] →
    AppendsPart old new bytes
nothing-part old new bytes none = (0, none)

-- the file of a version, a bound, and these records, up to a rank
module _ (version : Version) (bound : ℕ) (bytes : ℕ → List ℕ) where
  -- up to more ranks
  pub file-more : (n m : ℕ) → file_of version bound bytes n ++ records_from bytes n m
      ≡ file_of version bound bytes (n + m)
  file-more n m =
      let here : 0 + n ≡ n = omega arith in
      append_assoc (header version bound) (records_from bytes 0 n) (records_from bytes n m)
      ∙ ap (λ (bs : List ℕ). header version bound ++ bs)
      (sym (records-split bytes 0 n m
      ∙ ap (λ (r : ℕ). records_from bytes 0 n ++ records_from bytes r m) here))

  -- the header and no record
  pub header-first : (old new : Option (List ℕ)) → Appends old new (header version bound) →
      Appends old new (file_of version bound bytes 0)
  unfolding records_from
  header-first old new all =
      subst (λ (bs : List ℕ). Appends old new bs) (sym (append-nil (header version bound))) all

  -- the file up to a rank, and the records of more ranks
  pub more-written : (old mid new : Option (List ℕ)) (n m : ℕ) →
      Appends old mid (file_of version bound bytes n)
      → Appends mid new (records_from bytes n m) →
      Appends old new (file_of version bound bytes (n + m))
  more-written old mid new n m before all =
      subst (λ (bs : List ℕ). Appends old new bs) (file-more n m)
      (appends_twice old mid new (file_of version bound bytes n) (records_from bytes n m) before
      all)

-- the file up to the last rank
module _ (version : Version) (bound : ℕ) (bytes : ℕ → List ℕ) (count : ℕ) where
  -- up to a rank, the records of more ranks, and the rest
  file-split : (n m : ℕ) → n + m ≤ count → file_of version bound bytes count
      ≡ file_of version bound bytes n
      ++ (records_from bytes n m ++ records_from bytes (n + m) (count - (n + m)))
  file-split n m le =
      let all : count ≡ n + (m + (count - (n + m))) = omega arith in
      let here : 0 + n ≡ n = omega arith in
      ap (file_of version bound bytes) all
      ∙ (ap (λ (bs : List ℕ). header version bound ++ bs)
      (records-split bytes 0 n (m + (count - (n + m)))
      ∙ ap
      (λ (r : ℕ). records_from bytes 0 n ++ records_from bytes r (m + (count - (n + m)))) here
      ∙ ap (λ (bs : List ℕ). records_from bytes 0 n ++ bs)
      (records-split bytes n m (count - (n + m))))
      ∙ sym (append_assoc (header version bound) (records_from bytes 0 n)
      (records_from bytes n m ++ records_from bytes (n + m) (count - (n + m)))))

  -- a prefix of the header was written
  pub header-part : (old new : Option (List ℕ)) → AppendsPart old new (header version bound) →
      AppendsPart old new (file_of version bound bytes count)
  header-part old new part =
      let first = take-front part.0 (header version bound) (records_from bytes 0 count) in
      (first.0, subst (λ (bs : List ℕ). Appends old new bs) first.1 part.1)

  -- the file up to a rank
  pub ranks-part : (old new : Option (List ℕ)) (n : ℕ) → n ≤ count →
      Appends old new (file_of version bound bytes n)
      → AppendsPart old new (file_of version bound bytes count)
  ranks-part old new n le all =
      subst (λ (bs : List ℕ). AppendsPart old new bs) (sym (file-split n 0 (omega arith)))
      (front-part old new (file_of version bound bytes n)
      (records_from bytes n 0 ++ records_from bytes (n + 0) (count - (n + 0))) all)

  -- the file up to a rank and a prefix of more ranks
  pub more-part : (old mid new : Option (List ℕ)) (n m : ℕ) → n + m ≤ count
      → Appends old mid (file_of version bound bytes n) →
      AppendsPart mid new (records_from bytes n m)
      → AppendsPart old new (file_of version bound bytes count)
  more-part old mid new n m le before part =
      subst (λ (bs : List ℕ). AppendsPart old new bs) (sym (file-split n m le))
      (part-behind old mid new (file_of version bound bytes n) (records_from bytes n m)
      (records_from bytes (n + m) (count - (n + m))) before part)
