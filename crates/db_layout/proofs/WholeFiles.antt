-- A whole file of records, and what one reads in it.
use Rattle.std.proofs.Common.{◌≡◌, ℕ, zero, suc, ◌+◌, ◌-◌, ◌<◌, ◌≤◌, List, ◌++◌, length, take, drop, refl, sym, ap}
use Rattle.std.proofs.Common.{subst, ◌∙◌, arith, le_trans, append_assoc, length-append, slice_index}
use Rattle.std.proofs.lemmas.List.{append-nil}
use Rattle.std.proofs.Math.Seq.{take-append_seam, drop-append_seam}
use Rattle.race_model.specs.Prelude.{pips, at_rank, count_to, Version, full, compact, greatest_bound, IsBytes, IsFile}
use Rattle.race_model.specs.Prelude.{header, bytes_at, version_of, bound_of, record_place, told_record, record_at}
use Rattle.race_model.specs.Prelude.{mean_of, play_of, share_of, mean_at, play_at, spread_at}
use Rattle.race_model.proofs.RightFiles.Places.{length_at, record_place-first, record_place-next}
use Rattle.race_model.proofs.RightFiles.Right.{greatest_bound-most}
use Rattle.db_layout.specs.Records.{IsRecordOf}
use Rattle.db_layout.specs.WholeFiles.{records_from, file_of}
use Rattle.db_layout.proofs.Bytes.{small_append, small_header}

-- a header has 32 bytes
pub header-length : (version : Version) (bound : ℕ) → length (header version bound) ≡ 32
header-length version bound = refl

-- records, one after another
module _ (bytes : ℕ → List ℕ) where
  -- one part after another
  pub records-split : (r m n : ℕ) →
      records_from bytes r (m + n) ≡ records_from bytes r m ++ records_from bytes (r + m) n
  unfolding records_from
  records-split r zero n =
      let none : 0 + n ≡ n = omega arith in
      let here : r + 0 ≡ r = omega arith in
      rw (none, here) refl
  records-split r (suc m) n =
      let more : suc m + n ≡ suc (m + n) = omega arith in
      let place : r + suc m ≡ suc r + m = omega arith in
      rw (more, place, append_assoc)
      (ap (λ (bs : List ℕ). bytes r ++ bs) (records-split (suc r) m n))

  pub records-one : (r : ℕ) → records_from bytes r 1 ≡ bytes r
  unfolding records_from
  records-one r = append-nil (bytes r)

  -- the records of n ranks from a rank on, up to one of them and after it
  pub records-apart : (r i n : ℕ) → i < n → records_from bytes r n
      ≡ records_from bytes r i ++ (bytes (r + i) ++ records_from bytes (r + i + 1) (n - i - 1))
  records-apart r i n lt =
      let all : n ≡ i + (1 + (n - i - 1)) = omega arith in
      ap (records_from bytes r) all
      ∙ (records-split r i (1 + (n - i - 1))
      ∙ ap (λ (bs : List ℕ). records_from bytes r i ++ bs)
      (records-split (r + i) 1 (n - i - 1)
      ∙ ap (λ (bs : List ℕ). bs ++ records_from bytes (r + i + 1) (n - i - 1))
      (records-one (r + i))))

  -- one record more
  pub records-next : (r i : ℕ) →
      records_from bytes r (i + 1) ≡ records_from bytes r i ++ bytes (r + i)
  records-next r i =
      records-split r i 1
      ∙ ap (λ (bs : List ℕ). records_from bytes r i ++ bs) (records-one (r + i))

  -- all are bytes where each is
  pub records-bytes : ((r : ℕ) → IsBytes (bytes r)) → (r n : ℕ) → IsBytes (records_from bytes r n)
  unfolding records_from
  records-bytes each r zero i = omega arith
  records-bytes each r (suc n) i =
      small_append (bytes r) (records_from bytes (suc r) n) (each r) (records-bytes each (suc r) n)
      i

-- the file states its version
pub file-version : (version : Version) (bound : ℕ) (bytes : ℕ → List ℕ) (n : ℕ) →
    version_of (file_of version bound bytes n) ≡ version
unfolding version_of
file-version full bound bytes n = refl
file-version compact bound bytes n = refl

-- the file states its bound
pub file-bound : (version : Version) (bound : ℕ) (bytes : ℕ → List ℕ) (n : ℕ) → bound ≤ 58 →
    bound_of (file_of version bound bytes n) ≡ bound
unfolding bound_of
file-bound version bound bytes n low = omega arith

-- the file of records, each as long as the version has it for its rank
module _ (version : Version) (bound : ℕ) (bytes : ℕ → List ℕ) where
  pub file-front : (n : ℕ) → take 32 (file_of version bound bytes n) ≡ header version bound
  file-front n = take-append_seam (header version bound) (records_from bytes 0 n)

  -- its length is the place behind its last record
  pub file-length : (n : ℕ) → ((r : ℕ) → r < n → length (bytes r) ≡ length_at version r) →
      length (file_of version bound bytes n) ≡ record_place version n
  unfolding records_from
  file-length zero each =
      omega (
        arith,
        length-append (header version bound) (records_from bytes 0 0),
        header-length version bound,
        record_place-first version,
      )
  file-length (suc n) each =
      omega (
        arith,
        length-append (header version bound) (records_from bytes 0 (suc n)),
        length-append (header version bound) (records_from bytes 0 n),
        ap (λ k. length (records_from bytes 0 k)) (one-more n),
        ap length (records-next bytes 0 n),
        length-append (records_from bytes 0 n) (bytes (0 + n)),
        ap (λ k. length (bytes k)) (from-none n),
        each n (omega arith),
        file-length n (λ r lt. each r (omega arith)),
        record_place-next version n,
      )
    where
      one-more : (n : ℕ) → suc n ≡ n + 1
      one-more n = omega arith

      from-none : (n : ℕ) → 0 + n ≡ n
      from-none n = omega arith

  -- up to a rank, its record, and the rest
  file-apart : (r n : ℕ) → r < n → file_of version bound bytes n
      ≡ file_of version bound bytes r ++ (bytes r ++ records_from bytes (r + 1) (n - r - 1))
  file-apart r n lt =
      ap (λ (bs : List ℕ). header version bound ++ bs)
      (records-apart bytes 0 r n lt
      ∙ ap
      (λ k.
      records_from bytes 0 r ++ (bytes k ++ records_from bytes (k + 1) (n - r - 1)))
      (from-none r))
      ∙ sym (append_assoc (header version bound) (records_from bytes 0 r)
      (bytes r ++ records_from bytes (r + 1) (n - r - 1)))
    where
      from-none : (n : ℕ) → 0 + n ≡ n
      from-none n = omega arith

  -- the record of each rank stands at its place
  pub file-record : (r n : ℕ) → r < n →
      ((q : ℕ) → q < n → length (bytes q) ≡ length_at version q) →
      bytes_at (file_of version bound bytes n) (record_place version r) (length_at version r)
      ≡ bytes r
  file-record r n lt each =
      let rest = records_from bytes (r + 1) (n - r - 1) in
      ap
      (λ (bs : List ℕ). take (length_at version r) (drop (record_place version r) bs))
      (file-apart r n lt)
      ∙ (ap (take (length_at version r))
      (subst
      (λ (place : ℕ).
      drop place (file_of version bound bytes r ++ (bytes r ++ rest)) ≡ bytes r ++ rest)
      (file-length r (λ q less. each q (omega arith)))
      (drop-append_seam (file_of version bound bytes r) (bytes r ++ rest)))
      ∙ subst (λ (size : ℕ). take size (bytes r ++ rest) ≡ bytes r) (each r lt)
      (take-append_seam (bytes r) rest))

  -- it is one of bytes where its records are
  pub file-bytes : ((r : ℕ) → IsBytes (bytes r)) → (n : ℕ) →
      IsBytes (file_of version bound bytes n)
  file-bytes small n =
      small_append (header version bound) (records_from bytes 0 n) (small_header version bound)
      (records-bytes bytes small 0 n)

-- the file of a version and a bound that it allows, whose records tell these numbers
module _ (version : Version) (bound : ℕ) (low : bound ≤ greatest_bound version)
    (bytes : ℕ → List ℕ) (mean : ℕ → ℕ) (plays shares : ℕ → List ℕ)
    (told : (r : ℕ) → r < count_to bound →
    IsRecordOf version (pips (at_rank r)) (bytes r) (mean r) (plays r) (shares r)) where
  abbrev whole : List ℕ
  whole = file_of version bound bytes (count_to bound)

  whole-version : version_of whole ≡ version
  whole-version = file-version version bound bytes (count_to bound)

  whole-bound : bound_of whole ≡ bound
  whole-bound =
      file-bound version bound bytes (count_to bound) (le_trans low (greatest_bound-most version))

  each-length : (r : ℕ) → r < count_to bound → length (bytes r) ≡ length_at version r
  each-length r lt = (told r lt).len

  -- the full record that stands for a rank
  whole-record : (r : ℕ) → r < count_to bound →
      record_at whole r ≡ told_record version (pips (at_rank r)) (bytes r)
  whole-record r lt =
      ap
      (λ (v : Version).
      told_record v (pips (at_rank r)) (bytes_at whole (record_place v r) (length_at v r)))
      whole-version
      ∙ ap (told_record version (pips (at_rank r)))
      (file-record version bound bytes r (count_to bound) lt each-length)

  -- what one reads in the file
  pub whole-mean : (r : ℕ) → r < count_to bound → mean_at whole r ≡ mean r
  unfolding mean_at
  whole-mean r lt = ap mean_of (whole-record r lt) ∙ (told r lt).mean_is

  pub whole-play : (r i : ℕ) → r < count_to bound → i < 21 →
      play_at whole r i ≡ slice_index (plays r) i
  unfolding play_at
  whole-play r i lt few =
      ap (λ (bs : List ℕ). play_of bs i) (whole-record r lt) ∙ (told r lt).play_is i few

  pub whole-share : (r k : ℕ) → r < count_to bound → k ≤ 22 →
      spread_at whole r k ≡ slice_index (shares r) k
  unfolding spread_at
  whole-share r k lt few =
      ap (λ (bs : List ℕ). share_of bs k) (whole-record r lt) ∙ (told r lt).share_is k few

  pub whole-is_file : IsFile whole
  whole-is_file = record {
    bounded = omega (arith, whole-bound, ap greatest_bound whole-version, low);
    headed =
        file-front version bound bytes (count_to bound)
        ∙ (ap (λ (v : Version). header v bound) (sym whole-version)
        ∙ ap (header (version_of whole)) (sym whole-bound));
    whole =
        file-length version bound bytes (count_to bound) each-length
        ∙ (ap (λ (v : Version). record_place v (count_to bound)) (sym whole-version)
        ∙ ap (λ b. record_place (version_of whole) (count_to b)) (sym whole-bound));
  }
