-- The bytes of numbers, and what one reads in the bytes of a record.
use Rattle.std.proofs.Common.{◌≡◌, ℕ, zero, suc, ◌+◌, ◌-◌, ◌*◌, ◌/◌, ◌%◌, ◌^◌, ◌<◌, ◌≤◌, List, [], ◌∷◌, ◌++◌, length}
use Rattle.std.proofs.Common.{sum, take, drop, get_or, refl, sym, ap, ap₂, subst, ◌∙◌, arith, append_assoc, ⊎_elim}
use Rattle.std.proofs.Common.{Bool, false, cond, leb, flat_map, replicate, codes, true}
use Rattle.std.proofs.lemmas.Grind.{flat_map-append}
use Rattle.std.proofs.lemmas.List.{length-append, length-take, length-drop, get_or-take}
use Rattle.std.proofs.lemmas.List.{get_or-drop, get_or_past, append-nil, take_more}
use Rattle.std.proofs.Math.Nat.{div-add-mod, div-div-eq-div-mul, pow-suc}
use Rattle.std.proofs.Math.Bool.{and-eq-true_iff}
use Rattle.std.proofs.Math.Dec.{ltb}
use Rattle.std.proofs.lemmas.Bool.{ltb-true, leb-true, cases_lt}
use Rattle.std.specs.List.{list_all}
use Rattle.std.proofs.Math.Seq.{take-append_seam, drop-append-add}
use Rattle.std.specs.Int.{w16, w32, w128, byte_at, byte_worth, bytes_high_first, sum_through}
use Rattle.std.specs.Int.{to_be_bytes, from_be_bytes}
use Rattle.std.proofs.lemmas.Nat.{from_be_bytes-to_be_bytes_2}
use Rattle.race_model.specs.Prelude.{count_to, most_rolls, Version, full, compact, version_number, stated_length}
use Rattle.race_model.specs.Prelude.{first_share, share_count, record_length, IsBytes, header, mean_of, play_of}
use Rattle.race_model.specs.Prelude.{share_of, told_share, whole}
use Rattle.race_model.proofs.RightFiles.ToldRecords.{told_mean, told_play, told_shares}
use Rattle.fixed_fraction.proofs.Shares.{share_at_most_sum}
use Rattle.db_layout.specs.Records.{short_bytes, wide_bytes, stored_shares, record_of, IsHeld, IsRecordOf}

-- a sum from its first number on
sum_through-first : (f : ℕ → ℕ) (k : ℕ) →
    sum_through f (suc k) ≡ f 0 + sum_through (λ i. f (suc i)) k
sum_through-first f zero = refl
sum_through-first f (suc k) = omega (arith, sum_through-first f k)

-- sums of equal numbers
sum_through-same : (f g : ℕ → ℕ) (k : ℕ) → ((i : ℕ) → f i ≡ g i) →
    sum_through f k ≡ sum_through g k
sum_through-same f g zero e = e 0
sum_through-same f g (suc k) e = omega (arith, sum_through-same f g k e, e (suc k))

-- the number of k + 1 bytes, high byte first
unfoldable value : ℕ → List ℕ → ℕ
value k bytes = sum_through (λ i. byte_worth (k - i) (get_or bytes i 0)) k

value-cons : (k b : ℕ) (bs : List ℕ) → value (suc k) (b ∷ bs) ≡ b * 256 ^ suc k + value k bs
unfolding value
value-cons k b bs =
    let whole : suc k - 0 ≡ suc k = omega arith in
    let first : byte_worth (suc k - 0) b ≡ b * 256 ^ suc k = ap (λ n. byte_worth n b) whole in
    let rest =
    sum_through-same (λ i. byte_worth (suc k - suc i) (get_or bs i 0))
    (λ i. byte_worth (k - i) (get_or bs i 0)) k
    (λ i.
    let less : suc k - suc i ≡ k - i = omega arith in
    ap (λ n. byte_worth n (get_or bs i 0)) less) in
    sum_through-first (λ i. byte_worth (suc k - i) (get_or (b ∷ bs) i 0)) k
    ∙ ap₂ (λ n m. n + m) first rest

-- the parts of a number, by one byte more
split_byte : (n m p q d e r : ℕ) → m * 256 * q + r ≡ n → m * p + e ≡ n → 256 * q + d ≡ p →
    r ≡ d * m + e
split_byte n m p q d e r a b c =
    let h : m * (256 * q + d) + e ≡ n = rw c b in
    omega (arith, mul-distrib m (256 * q) d)
  where
    mul-distrib : (a b c : ℕ) → a * (b + c) ≡ a * b + a * c
    mul-distrib a b c = omega arith

-- the remainder by one byte more
mod-byte : (n m : ℕ) → n % (m * 256) ≡ n / m % 256 * m + n % m
mod-byte n m =
    split_byte n m (n / m) (n / (m * 256)) (n / m % 256) (n % m) (n % (m * 256))
    (div-add-mod n (m * 256)) (div-add-mod n m)
    (rw (← div-div-eq-div-mul n m 256) (div-add-mod (n / m) 256))

-- k + 1 bytes of a number give its remainder
value-bytes : (k n : ℕ) → value k (bytes_high_first (suc k) n) ≡ n % 256 ^ suc k
unfolding value
value-bytes zero n = omega arith
value-bytes (suc k) n =
    value-cons k (n / 256 ^ suc k % 256) (bytes_high_first (suc k) n)
    ∙ (ap (λ m. n / 256 ^ suc k % 256 * 256 ^ suc k + m) (value-bytes k n)
    ∙ (sym (mod-byte n (256 ^ suc k)) ∙ ap (λ m. n % m) (sym (pow-suc 256 (suc k)))))

-- a number of 128 bits is read back
pub from_be_bytes-to_be_bytes_16 : (n : ℕ) → n < 2 ^ 128 →
    from_be_bytes w128 (to_be_bytes w128 n) ≡ n
unfolding value
from_be_bytes-to_be_bytes_16 n fits = value-bytes 15 n ∙ omega arith

-- a number of 16 bits is read back
pub from_be_bytes-short : (n : ℕ) → n < 2 ^ 16 → from_be_bytes w16 (short_bytes n) ≡ n
unfolding short_bytes
from_be_bytes-short n fits = from_be_bytes-to_be_bytes_2 n fits

pub from_be_bytes-wide : (n : ℕ) → n < 2 ^ 128 → from_be_bytes w128 (wide_bytes n) ≡ n
unfolding wide_bytes
from_be_bytes-wide n fits = from_be_bytes-to_be_bytes_16 n fits

-- their lengths
pub length-short_bytes : (n : ℕ) → length (short_bytes n) ≡ 2
unfolding short_bytes
length-short_bytes n = refl

pub length-wide_bytes : (n : ℕ) → length (wide_bytes n) ≡ 16
unfolding wide_bytes
length-wide_bytes n = refl

-- parts of equal length one after another
pub length-parts : (g : ℕ → List ℕ) (w : ℕ) → ((x : ℕ) → length (g x) ≡ w) → (xs : List ℕ) →
    length (flat_map g xs) ≡ w * length xs
length-parts g w each [] = omega arith
length-parts g w each (x ∷ xs) =
    omega (arith, length-append (g x) (flat_map g xs), each x, length-parts g w each xs)

-- one of some parts of equal length
pub take-part : (g : ℕ → List ℕ) (w : ℕ) → ((x : ℕ) → length (g x) ≡ w) →
    (xs rest : List ℕ) (i : ℕ) → i < length xs →
    take w (drop (w * i) (flat_map g xs ++ rest)) ≡ g (get_or xs i 0)
take-part g w each [] rest i lt = absurd (omega arith)
take-part g w each (x ∷ xs) rest zero lt =
    let start : w * 0 ≡ 0 = omega arith in
    rw (start, append_assoc, ← each x) (take-append_seam (g x) (flat_map g xs ++ rest))
take-part g w each (x ∷ xs) rest (suc i) lt =
    let next : w * suc i ≡ length (g x) + w * i = omega (arith, each x) in
    rw (next, append_assoc, drop-append-add (g x) (flat_map g xs ++ rest) (w * i))
    (take-part g w each xs rest i (omega arith))

-- of the shares of 0 to 22 rolls some number from one on
module _ (first count : ℕ) (shares : List ℕ) (room : first + count ≤ length shares) where
  -- how many they are
  pub length-stored : length (take count (drop first shares)) ≡ count
  length-stored =
      omega (arith, room, length-take count (drop first shares), length-drop first shares)

  -- which shares are stored
  pub get_or-stored : (j : ℕ) → j < count →
      get_or (take count (drop first shares)) j 0 ≡ get_or shares (first + j) 0
  get_or-stored j inside =
      get_or-take count (drop first shares) j 0 inside ∙ get_or-drop first shares j 0

-- what one reads in the stored bytes of a record
module _ (mean : ℕ) (plays stored : List ℕ) (small : mean < 2 ^ 128) (few : length plays ≡ 21)
    (low : (i : ℕ) → get_or plays i 0 < 2 ^ 16)
    (short : (k : ℕ) → get_or stored k 0 < 2 ^ 128) where
  -- the bytes
  abbrev pub stored_bytes : List ℕ
  stored_bytes = wide_bytes mean ++ (flat_map short_bytes plays ++ flat_map wide_bytes stored)

  -- their number
  pub length-stored_bytes : length stored_bytes ≡ 58 + 16 * length stored
  length-stored_bytes =
      omega (
        arith,
        few,
        length-append (wide_bytes mean)
            (flat_map short_bytes plays ++ flat_map wide_bytes stored),
        length-append (flat_map short_bytes plays) (flat_map wide_bytes stored),
        length-wide_bytes mean,
        length-parts short_bytes 2 length-short_bytes plays,
        length-parts wide_bytes 16 length-wide_bytes stored,
      )

  -- the mean
  pub stored_mean : mean_of stored_bytes ≡ mean
  unfolding mean_of
  stored_mean =
      ap (from_be_bytes w128) (subst (λ (n : ℕ). take n stored_bytes ≡ wide_bytes mean)
      (length-wide_bytes mean)
      (take-append_seam (wide_bytes mean)
      (flat_map short_bytes plays ++ flat_map wide_bytes stored)))
      ∙ from_be_bytes-wide mean small

  -- a play
  pub stored_play : (i : ℕ) → i < 21 → play_of stored_bytes i ≡ get_or plays i 0
  unfolding play_of
  stored_play i lt =
      ap (from_be_bytes w16) part ∙ from_be_bytes-short (get_or plays i 0) (low i)
    where
      part : take 2 (drop (16 + 2 * i) stored_bytes) ≡ short_bytes (get_or plays i 0)
      part =
          rw (
            ← length-wide_bytes mean,
            drop-append-add (wide_bytes mean)
                (flat_map short_bytes plays ++ flat_map wide_bytes stored) (2 * i),
          )
          (take-part short_bytes 2 length-short_bytes plays (flat_map wide_bytes stored) i
          (omega (arith, few, lt)))

  -- a share
  pub stored_share : (k : ℕ) → k < length stored → share_of stored_bytes k ≡ get_or stored k 0
  unfolding share_of
  stored_share k inside =
      ap (from_be_bytes w128) part ∙ from_be_bytes-wide (get_or stored k 0) (short k)
    where
      part : take 16 (drop (58 + 16 * k) stored_bytes) ≡ wide_bytes (get_or stored k 0)
      part =
          let place : 58 + 16 * k ≡ length (wide_bytes
          mean) + (length (flat_map short_bytes plays) + 16 * k) =
          omega (
            arith,
            few,
            length-wide_bytes mean,
            length-parts short_bytes 2 length-short_bytes plays,
          ) in
          rw (
            place,
            drop-append-add (wide_bytes mean)
                (flat_map short_bytes plays ++ flat_map wide_bytes stored)
                (length (flat_map short_bytes plays) + 16 * k),
            drop-append-add (flat_map short_bytes plays) (flat_map wide_bytes stored) (16 * k),
          )
          (subst (λ (bs : List ℕ). take 16 (drop (16 * k) bs) ≡ wide_bytes (get_or stored k 0))
          (append-nil (flat_map wide_bytes stored))
          (take-part wide_bytes 16 length-wide_bytes stored [] k inside))

-- the shares that a record stores are some of the 23
pub stored_room : (version : Version) (p : ℕ) → most_rolls p ≤ 22 →
    first_share version + share_count version p ≤ 23
stored_room full p few = omega arith
stored_room compact p few = omega (arith, few)

-- shares are told alike where those that are stored are alike
told_alike : (version : Version) (p : ℕ) (g h : ℕ → ℕ) (k : ℕ) → k ≤ 22 →
    ((n : ℕ) → first_share version ≤ n → n < first_share version + share_count version p →
    g n ≡ h n) → told_share version p g k ≡ told_share version p h k
told_alike full p g h k le each = each k (omega arith) (omega (arith, le))
told_alike compact p g h zero le each = refl
told_alike compact p g h (suc k) le each = by (leb (suc k) (most_rolls p)) refl
  where
    by : (b : Bool) → leb (suc k) (most_rolls p) ≡ b → cond b (g (suc k)) 0 ≡ cond b (h (suc k)) 0
    by true e =
        each (suc k) (omega arith) (omega (arith, leb-true (suc k) (most_rolls p) e))
    by false e = refl

-- what one reads in the bytes of a record of a pip count that has at most 22 rolls
module _ (version : Version) (p mean : ℕ) (plays shares : List ℕ) (rolls : most_rolls p ≤ 22)
    (held : IsHeld version p shares) (small : mean < 2 ^ 128) (few : length plays ≡ 21)
    (low : (i : ℕ) → get_or plays i 0 < 2 ^ 16) (many : length shares ≡ 23)
    (short : (k : ℕ) → get_or shares k 0 < 2 ^ 128) where
  -- the stored shares
  abbrev stored : List ℕ
  stored = stored_shares version p shares

  -- the stored shares are among the 23
  room : first_share version + share_count version p ≤ length shares
  room = omega (arith, many, stored_room version p rolls)

  length-these : length stored ≡ share_count version p
  length-these = length-stored (first_share version) (share_count version p) shares room

  -- the stored shares are no greater than 128 bits
  fits : (k : ℕ) → get_or stored k 0 < 2 ^ 128
  fits k = ⊎_elim
      (λ inside.
      subst (λ n. n < 2 ^ 128)
      (sym (get_or-stored (first_share version) (share_count version p) shares room k inside))
      (short (first_share version + k)))
      (λ past.
      subst (λ n. n < 2 ^ 128)
      (sym (get_or_past stored k 0 (omega (arith, past, length-these)))) (omega arith))
      (cases_lt k (share_count version p))

  -- the length of the bytes
  long : length (stored_bytes mean plays stored small few low fits) ≡ record_length version p
  long = omega (arith, length-stored_bytes mean plays stored small few low fits, length-these)

  -- a stored share
  share_stored : (n : ℕ) → first_share version ≤ n →
      n < first_share version + share_count version p →
      share_of (stored_bytes mean plays stored small few low fits) (n - first_share version)
      ≡ get_or shares n 0
  share_stored n from under =
      stored_share mean plays stored small few low fits (n - first_share version)
      (omega (arith, from, under, length-these))
      ∙ get_or-stored (first_share version) (share_count version p) shares room
      (n - first_share version) (omega (arith, from, under))
      ∙ ap (λ k. get_or shares k 0) (back n (first_share version) from)
    where
      back : (n first : ℕ) → first ≤ n → first + (n - first) ≡ n
      back n first h = omega (arith, h)

  pub record_reads : IsRecordOf version p (record_of version p mean plays shares) mean plays shares
  unfolding record_of
  record_reads = record {
    len = long;
    mean_is =
        told_mean version p (stored_bytes mean plays stored small few low fits) rolls long
        ∙ stored_mean mean plays stored small few low fits;
    play_is =
        λ i lt.
        told_play version p (stored_bytes mean plays stored small few low fits) i rolls long lt
        ∙ stored_play mean plays stored small few low fits i lt;
    share_is =
        λ k le.
        told_shares version p (stored_bytes mean plays stored small few low fits) k rolls long le
        ∙ told_alike version p
        (λ n. share_of (stored_bytes mean plays stored small few low fits)
        (n - first_share version)) (λ n. get_or shares n 0) k le share_stored
        ∙ sym (held k le);
  }

-- the parts of one number more
pub flat_map-take_more : (g : ℕ → List ℕ) (xs : List ℕ) (i : ℕ) → i < length xs →
    flat_map g (take (i + 1) xs) ≡ flat_map g (take i xs) ++ g (get_or xs i 0)
flat_map-take_more g xs i lt =
    ap (flat_map g) (take_more xs i 0 lt)
    ∙ (flat_map-append g (take i xs) (get_or xs i 0 ∷ [])
    ∙ ap (λ (bs : List ℕ). flat_map g (take i xs) ++ bs) (append-nil (g (get_or xs i 0))))

-- the bytes that the code makes of a number
pub short_is : (n : ℕ) (bs : List ℕ) → bs ≡ to_be_bytes w16 n → bs ≡ short_bytes n
unfolding short_bytes
short_is n bs e = e

pub wide_is : (n : ℕ) (bs : List ℕ) → bs ≡ to_be_bytes w128 n → bs ≡ wide_bytes n
unfolding wide_bytes
wide_is n bs e = e

-- no share of a spread is over 128 bits
pub shares_fit : (shares : List ℕ) → sum shares ≡ whole → (k : ℕ) → get_or shares k 0 < 2 ^ 128
unfolding whole
shares_fit shares all k = omega (arith, share_at_most_sum shares k)

-- no mean is over 128 bits
pub mean_fits : (mean : ℕ) → mean ≤ 22 * whole → mean < 2 ^ 128
unfolding whole
mean_fits mean le = omega arith

-- the bytes of a record, as they are added up
pub record_is : (version : Version) (p mean : ℕ) (plays shares : List ℕ) →
    (wide_bytes mean ++ flat_map short_bytes plays)
    ++ flat_map wide_bytes (stored_shares version p shares)
    ≡ record_of version p mean plays shares
unfolding record_of
record_is version p mean plays shares =
    append_assoc (wide_bytes mean) (flat_map short_bytes plays)
    (flat_map wide_bytes (stored_shares version p shares))

-- bytes before bytes are bytes
pub small_append : (xs ys : List ℕ) → IsBytes xs → IsBytes ys → IsBytes (xs ++ ys)
small_append [] ys a b i = b i
small_append (x ∷ xs) ys a b zero = a 0
small_append (x ∷ xs) ys a b (suc i) = small_append xs ys (λ j. a (suc j)) b i

-- the digits of a number to the base 256 are bytes
small_byte : (k n : ℕ) → byte_at k n < 256
small_byte zero n = omega arith
small_byte (suc k) n = omega arith

small_bytes : (k n : ℕ) → IsBytes (bytes_high_first k n)
small_bytes zero n i = omega arith
small_bytes (suc k) n zero = small_byte k n
small_bytes (suc k) n (suc i) = small_bytes k n i

pub small_short : (n : ℕ) → IsBytes (short_bytes n)
unfolding short_bytes
small_short n = small_bytes 2 n

pub small_wide : (n : ℕ) → IsBytes (wide_bytes n)
unfolding wide_bytes
small_wide n = small_bytes 16 n

-- parts of bytes one after another
small_parts : (g : ℕ → List ℕ) → ((x : ℕ) → IsBytes (g x)) → (xs : List ℕ) →
    IsBytes (flat_map g xs)
small_parts g each [] i = omega arith
small_parts g each (x ∷ xs) i =
    small_append (g x) (flat_map g xs) (each x) (small_parts g each xs) i

-- a record is one of bytes
pub small_record : (version : Version) (p mean : ℕ) (plays shares : List ℕ) →
    IsBytes (record_of version p mean plays shares)
unfolding record_of
small_record version p mean plays shares =
    small_append (wide_bytes mean)
    (flat_map short_bytes plays ++ flat_map wide_bytes (stored_shares version p shares))
    (small_wide mean)
    (small_append (flat_map short_bytes plays)
    (flat_map wide_bytes (stored_shares version p shares))
    (small_parts short_bytes small_short plays)
    (small_parts wide_bytes small_wide (stored_shares version p shares)))

-- the bytes of a header are bytes
small_none : IsBytes []
small_none i = omega arith

small_more : (b : ℕ) (bs : List ℕ) → b < 256 → IsBytes bs → IsBytes (b ∷ bs)
small_more b bs lt rest zero = lt
small_more b bs lt rest (suc i) = rest i

small_all : (bs : List ℕ) → list_all (λ b. ltb b 256) bs ≡ true → IsBytes bs
small_all [] every = small_none
small_all (b ∷ bs) every =
    let both = (and-eq-true_iff (ltb b 256) (list_all (λ b. ltb b 256) bs)).0 every in
    small_more b bs (ltb-true b 256 both.0) (small_all bs both.1)

pub small_header : (version : Version) (bound : ℕ) → IsBytes (header version bound)
small_header version bound =
    let name = codes "EPCTABLE" in
    let to_version = name ++ to_be_bytes w16 (version_number version) in
    let to_bound = to_version ++ to_be_bytes w16 bound in
    let to_count = to_bound ++ to_be_bytes w32 (count_to bound) in
    small_append (to_count ++ to_be_bytes w32 (stated_length version)) (replicate 12 0)
    (small_append to_count (to_be_bytes w32 (stated_length version))
    (small_append to_bound (to_be_bytes w32 (count_to bound))
    (small_append to_version (to_be_bytes w16 bound)
    (small_append name (to_be_bytes w16 (version_number version)) (small_all name refl)
    (small_bytes 2 (version_number version)))
    (small_bytes 2 bound))
    (small_bytes 4 (count_to bound)))
    (small_bytes 4 (stated_length version)))
    (small_all (replicate 12 0) refl)
