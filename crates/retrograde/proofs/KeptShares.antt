-- The shares that stand in a room are those of the records.
use Rattle.std.proofs.Common.{◌≡◌, ⊎_elim, ℕ, ◌+◌, ◌-◌, ◌*◌, ◌<◌, ◌≤◌, List, length, take, sym, ap, ap₂, ◌∙◌, arith}
use Rattle.std.proofs.Common.{ext_get_or, slice_index}
use Rattle.std.specs.Int.{w128, from_le_bytes}
use Rattle.std.proofs.Math.ListN.{drop_of_length-le}
use Rattle.std.proofs.lemmas.Bool.{cases_lt}
use Rattle.std.proofs.lemmas.List.{get_or_past}
use Rattle.std.proofs.lemmas.List.FromFn.{get_or-map-range_with_len, length-map-range_with_len}
use Rattle.race_model.specs.Prelude.{Version, full, compact, record_length, bytes_at, most_rolls}
use Rattle.race_model.proofs.RightFiles.Places.{length-bytes_at}
use Rattle.race_model.proofs.Strategies.Horizons.{most_rolls-most}
use Rattle.db_layout.proofs.ByteParts.{bytes_at-inner, bytes_at-agree}
use Rattle.retrograde.specs.KeptShares.{shares_in, shares_kept}

-- the share of k rolls in bytes
abbrev pub number_in : List ℕ → ℕ → ℕ
number_in bytes k = from_le_bytes w128 (bytes_at bytes (16 * k) 16)

-- one of the shares in bytes
pub share-in : (bytes : List ℕ) (k : ℕ) → k ≤ 22 →
    slice_index (shares_in bytes) k ≡ number_in bytes k
unfolding shares_in
share-in bytes k few =
    get_or-map-range_with_len (number_in bytes) 0 23 k k 0 (omega arith) (omega arith)

-- they are 23
pub length-shares_in : (bytes : List ℕ) → length (shares_in bytes) ≡ 23
unfolding shares_in
length-shares_in bytes = length-map-range_with_len (number_in bytes) 0 23

-- and none beyond the bytes
pub share-past : (bytes : List ℕ) (k : ℕ) → length bytes ≤ 16 * k →
    slice_index (shares_in bytes) k ≡ 0
share-past bytes k past = ⊎_elim
    (λ few.
    share-in bytes k (omega (arith, few))
    ∙ ap (λ (bs : List ℕ). from_le_bytes w128 (take 16 bs)) (drop_of_length-le bytes past))
    (λ many.
    get_or_past (shares_in bytes) k 0 (omega (arith, many, length-shares_in bytes)))
    (cases_lt k 23)

-- shares that are read in a room, of which there are none beyond
pub kept-are : (room places : List ℕ) (r e : ℕ) (shares : List ℕ) → length shares ≡ 23
    → slice_index places (r + 1) ≡ slice_index places r + 16 * e
    → slice_index places r + 16 * e ≤ length room
    → ((k : ℕ) → k < e →
    from_le_bytes w128 (bytes_at room (slice_index places r + 16 * k) 16) ≡ slice_index shares k)
    → ((k : ℕ) → e ≤ k → slice_index shares k ≡ 0) → shares_kept room places r ≡ shares
unfolding shares_kept
kept-are room places r e shares len next fits read none =
    ext_get_or 0 (shares_in bytes) shares (length-shares_in bytes ∙ sym len)
    (λ k lt.
    let few : k ≤ 22 = omega (arith, lt, length-shares_in bytes) in
    ⊎_elim
    (λ under.
    share-in bytes k few
    ∙ ap (from_le_bytes w128)
    (bytes_at-inner room (slice_index places r) size (16 * k) 16 (omega (arith, under, next)))
    ∙ read k under)
    (λ past. share-past bytes k (omega (arith, past, long)) ∙ sym (none k past))
    (cases_lt k e))
  where
    size : ℕ
    size = slice_index places (r + 1) - slice_index places r

    bytes : List ℕ
    bytes = bytes_at room (slice_index places r) size

    long : length bytes ≡ 16 * e
    long =
        length-bytes_at room (slice_index places r) size (omega (arith, next, fits))
        ∙ omega (arith, next)

-- those before a place stay where the room before it does
pub kept-agree : (room new places others : List ℕ) (r n : ℕ) → take n new ≡ take n room
    → slice_index others r ≡ slice_index places r
    → slice_index others (r + 1) ≡ slice_index places (r + 1)
    → slice_index places r ≤ slice_index places (r + 1) → slice_index places (r + 1) ≤ n
    → shares_kept new others r ≡ shares_kept room places r
unfolding shares_kept
kept-agree room new places others r n same here next rises within =
    ap₂ (λ place end. shares_in (bytes_at new place (end - place))) here next
    ∙ ap shares_in
    (bytes_at-agree new room n (slice_index places r)
    (slice_index places (r + 1) - slice_index places r) same (omega (arith, rises, within)))

-- they are no longer than the record of their position
pub kept-short : (version : Version) (p : ℕ) → p ≤ 58 →
    16 * (most_rolls p + 1) ≤ record_length version p
kept-short full p low = omega (arith, most_rolls-most p low)
kept-short compact p low = omega arith
