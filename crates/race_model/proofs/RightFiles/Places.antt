-- Where the records of a file stand: each behind the one before it.
use Rattle.std.proofs.Common.{◌≡◌, ℕ, zero, suc, ◌+◌, ◌-◌, ◌*◌, ◌<◌, ◌≤◌, List, length, drop}
use Rattle.std.proofs.Common.{sum_by, refl, ap, ◌∙◌, arith, length-take}
use Rattle.std.proofs.Common.{length-drop}
use Rattle.std.proofs.lemmas.List.Sums.{sum_by-cons}
use Rattle.race_model.specs.Prelude.{pips, at_rank, numbers_from, Version, full, compact, record_length, bytes_at}
use Rattle.race_model.specs.Prelude.{place_by, record_place, board_place, board_length}
use Rattle.race_model.proofs.Strategies.Horizons.{most_rolls-most}

-- so many bytes of a file that is long enough
pub length-bytes_at : (f : List ℕ) (place n : ℕ) → place + n ≤ length f →
    length (bytes_at f place n) ≡ n
length-bytes_at f place n long = omega (arith, length-take n (drop place f), length-drop place f)

-- the length of the record of a rank
abbrev pub length_at : Version → ℕ → ℕ
length_at version r = record_length version (pips (at_rank r))

-- a sum over one number more has the last one besides
pub sum_by-numbers_next : (g : ℕ → ℕ) (a n : ℕ) →
    sum_by g (numbers_from a (suc n)) ≡ sum_by g (numbers_from a n) + g (a + n)
unfolding numbers_from
sum_by-numbers_next g a zero = omega (arith, ap g (none a))
  where
    none : (a : ℕ) → a + 0 ≡ a
    none a = omega arith
sum_by-numbers_next g a (suc n) =
    let whole = sum_by-cons g a (numbers_from (suc a) (suc n)) in
    let part = sum_by-cons g a (numbers_from (suc a) n) in
    let rest = sum_by-numbers_next g (suc a) n in
    omega (arith, whole, part, rest, ap g (later a n))
  where
    later : (a n : ℕ) → suc a + n ≡ a + suc n
    later a n = omega arith

-- the bytes of the record of a rank, by those of each pip count
module _ (size : ℕ → ℕ) where
  -- no record begins in the header
  pub place_by-most : (r : ℕ) → 32 ≤ place_by size r
  unfolding place_by
  place_by-most r = omega arith

  -- the first record stands behind the header
  pub place_by-first : place_by size 0 ≡ 32
  unfolding place_by numbers_from
  place_by-first = refl

  -- each record stands behind the one before it
  pub place_by-next : (r : ℕ) →
      place_by size (suc r) ≡ place_by size r + size (pips (at_rank r))
  unfolding place_by
  place_by-next r =
      omega (
        arith,
        sum_by-numbers_next (λ k. size (pips (at_rank k))) 0 r,
        ap (λ k. size (pips (at_rank k))) (none r),
      )
    where
      none : (r : ℕ) → 0 + r ≡ r
      none r = omega arith

  -- records of one length stand that length apart
  pub place_by-level : (length r n : ℕ) →
      ((k : ℕ) → r ≤ k → k < r + n → size (pips (at_rank k)) ≡ length) →
      place_by size (r + n) ≡ place_by size r + n * length
  place_by-level length r zero same = omega (arith, ap (place_by size) (none r))
    where
      none : (r : ℕ) → r + 0 ≡ r
      none r = omega arith
  place_by-level length r (suc n) same =
      omega (
        arith,
        ap (place_by size) (later r n),
        place_by-next (r + n),
        place_by-level length r n (λ k from under. same k from (omega arith)),
        same (r + n) (omega arith) (omega arith),
      )
    where
      later : (r n : ℕ) → r + suc n ≡ suc (r + n)
      later r n = omega arith

  -- records of no more than one length begin no later than of that length
  pub place_by-at_most : (length r : ℕ) →
      ((k : ℕ) → k < r → size (pips (at_rank k)) ≤ length) →
      place_by size r ≤ 32 + length * r
  place_by-at_most length zero few = omega (arith, place_by-first)
  place_by-at_most length (suc r) few =
      omega (
        arith,
        place_by-next r,
        place_by-at_most length r (λ k under. few k (omega arith)),
        few r (omega arith),
      )

  -- a record ends before any of higher rank begins
  pub place_by-rises : (r n : ℕ) →
      place_by size r + size (pips (at_rank r)) ≤ place_by size (suc r + n)
  place_by-rises r zero =
      omega (arith, place_by-next r, ap (place_by size) (none r))
    where
      none : (r : ℕ) → suc r + 0 ≡ suc r
      none r = omega arith
  place_by-rises r (suc n) =
      omega (
        arith,
        place_by-rises r n,
        place_by-next (suc r + n),
        ap (place_by size) (later r n),
      )
    where
      later : (r n : ℕ) → suc r + suc n ≡ suc (suc r + n)
      later r n = omega arith

  -- in a file of so many records each is as long as its pip count has it
  pub length-record_by : (f : List ℕ) (count r : ℕ) → length f ≡ place_by size count → r < count →
      length (bytes_at f (place_by size r) (size (pips (at_rank r)))) ≡ size (pips (at_rank r))
  length-record_by f count r long under =
      length-bytes_at f (place_by size r) (size (pips (at_rank r)))
      (omega (arith, place_by-rises r (count - suc r), ap (place_by size) parts, long))
    where
      parts : suc r + (count - suc r) ≡ count
      parts = omega (arith, under)

-- the records of a version
pub record_place-by : (version : Version) (r : ℕ) →
    record_place version r ≡ place_by (record_length version) r
unfolding record_place
record_place-by version r = refl

-- the places of the records of a board file
pub board_place-by : (r : ℕ) → board_place r ≡ place_by board_length r
unfolding board_place
board_place-by r = refl

-- no record begins in the header
pub header_before : (version : Version) (r : ℕ) → 32 ≤ record_place version r
header_before version r =
    omega (arith, record_place-by version r, place_by-most (record_length version) r)

-- the first record stands behind the header
pub record_place-first : (version : Version) → record_place version 0 ≡ 32
record_place-first version = record_place-by version 0 ∙ place_by-first (record_length version)

-- each record of a version stands behind the one before it
pub record_place-next : (version : Version) (r : ℕ) →
    record_place version (suc r) ≡ record_place version r + length_at version r
record_place-next version r =
    omega (
      arith,
      record_place-by version r,
      record_place-by version (suc r),
      place_by-next (record_length version) r,
    )

-- records that are all full stand 426 bytes apart
pub record_place-full : (r : ℕ) → record_place full r ≡ 32 + 426 * r
record_place-full zero = record_place-first full
record_place-full (suc r) = omega (arith, record_place-next full r, record_place-full r)

-- a record ends before any of higher rank begins
pub record_place-rises : (version : Version) (r n : ℕ) →
    record_place version r + length_at version r ≤ record_place version (suc r + n)
record_place-rises version r n =
    omega (
      arith,
      record_place-by version r,
      record_place-by version (suc r + n),
      place_by-rises (record_length version) r n,
    )

-- a record of at most 58 pips is never longer than a full one
pub record_length-most : (version : Version) (p : ℕ) → p ≤ 58 → record_length version p ≤ 426
record_length-most full p low = omega arith
record_length-most compact p low = omega (arith, most_rolls-most p low)
