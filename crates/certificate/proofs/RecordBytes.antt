-- What a record says, by its bytes.
use Rattle.std.proofs.Common.{◌≡◌, ℕ, ◌<◌, List, length}
use Rattle.std.proofs.Common.{get_or, refl, sym, ◌∙◌, arith}
use Rattle.std.specs.List.{range_with_len}
use Rattle.std.proofs.lemmas.Grind.{same_number_lists}
use Rattle.std.proofs.lemmas.List.{length-map}
use Rattle.std.proofs.lemmas.List.FromFn.{get_or-map-range_with_len}
use Rattle.race_model.specs.Prelude.{record_at, mean_of, play_of, share_of, mean_at, play_at, spread_at}
use Rattle.certificate.specs.RecordNumbers.{plays_of, shares_of}

pub mean-of_record : (f : List ℕ) (r : ℕ) → mean_of (record_at f r) ≡ mean_at f r
unfolding mean_at
mean-of_record f r = refl

pub share-of_record : (f : List ℕ) (r k : ℕ) → share_of (record_at f r) k ≡ spread_at f r k
unfolding spread_at
share-of_record f r k = refl

pub play-of_record : (f : List ℕ) (r roll : ℕ) → play_of (record_at f r) roll ≡ play_at f r roll
unfolding play_at
play-of_record f r roll = refl

-- one of the plays in the bytes of a record
pub get_or-plays_of : (bytes : List ℕ) (i : ℕ) → i < 21
    → get_or (plays_of bytes) i 0 ≡ play_of bytes i
unfolding plays_of
get_or-plays_of bytes i lt =
    get_or-map-range_with_len (play_of bytes) 0 21 i i 0 (omega arith) (omega arith)

-- there are 21 plays in the bytes of a record
pub length-plays_of : (bytes : List ℕ) → length (plays_of bytes) ≡ 21
unfolding plays_of
length-plays_of bytes = length-map (range_with_len 0 21) (play_of bytes)

-- 21 numbers that are these plays one by one
pub are_plays : (xs bytes : List ℕ) → length xs ≡ 21
    → ((i : ℕ) → i < 21 → get_or xs i 0 ≡ play_of bytes i) → xs ≡ plays_of bytes
are_plays xs bytes len each =
    same_number_lists xs (plays_of bytes) (len ∙ sym (length-plays_of bytes))
    (λ i lt. each i (omega arith) ∙ sym (get_or-plays_of bytes i (omega arith)))

-- one of the shares in the bytes of a record
pub get_or-shares_of : (bytes : List ℕ) (k : ℕ) → k < 23
    → get_or (shares_of bytes) k 0 ≡ share_of bytes k
unfolding shares_of
get_or-shares_of bytes k lt =
    get_or-map-range_with_len (share_of bytes) 0 23 k k 0 (omega arith) (omega arith)

pub length-shares_of : (bytes : List ℕ) → length (shares_of bytes) ≡ 23
unfolding shares_of
length-shares_of bytes = length-map (range_with_len 0 23) (share_of bytes)

-- 23 numbers that are these shares one by one
pub are_shares : (xs bytes : List ℕ) → length xs ≡ 23
    → ((k : ℕ) → k < 23 → get_or xs k 0 ≡ share_of bytes k) → xs ≡ shares_of bytes
unfolding shares_of
are_shares xs bytes len each =
    same_number_lists xs (shares_of bytes)
    (len ∙ sym (length-map (range_with_len 0 23) (share_of bytes)))
    (λ k lt. each k (omega arith) ∙ sym (get_or-shares_of bytes k (omega arith)))
