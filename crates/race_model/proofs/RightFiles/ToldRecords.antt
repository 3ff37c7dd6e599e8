-- What the stored bytes of a record tell: the mean and the plays stand where they do in a full
-- record, and so do the stored shares, one place on in a compact record; the others are known.
use Rattle.std.proofs.Common.{◌≡◌, ℕ, zero, suc, ◌+◌, ◌-◌, ◌*◌, ◌^◌, ◌<◌, ◌≤◌, ◌==◌, Bool, true}
use Rattle.std.proofs.Common.{false, cond, leb, List, ◌++◌, length, take, drop, refl, ap, sym, ◌∙◌}
use Rattle.std.proofs.Common.{arith, length-take, length-drop, take-take, leb-true, leb-false}
use Rattle.std.specs.Int.{w16, w128, from_be_bytes, to_be_bytes}
use Rattle.std.proofs.lemmas.List.{drop-append-le, take-append-le}
use Rattle.std.proofs.lemmas.List.{drop-drop, drop-take, drop-replicate, take-replicate}
use Rattle.std.proofs.Math.Seq.{drop-append-add}
use Rattle.race_model.specs.Prelude.{most_rolls, Version, full, compact, first_share, share_count, record_length}
use Rattle.race_model.specs.Prelude.{bytes_at, share_before, shares_after, told_record, mean_of, play_of, share_of}
use Rattle.race_model.specs.Prelude.{whole, told_share}

-- the length of the share of 0 rolls
length-share_before : (p : ℕ) → length (share_before p) ≡ 16
unfolding share_before
length-share_before p = refl

-- bytes in the front of a list that goes on
bytes_at-front : (xs ys : List ℕ) (place n : ℕ) → place + n ≤ length xs →
    bytes_at (xs ++ ys) place n ≡ bytes_at xs place n
bytes_at-front xs ys place n inside =
    ap (take n) (drop-append-le place xs ys (omega (arith, inside)))
    ∙ take-append-le n (drop place xs) ys (omega (arith, inside, length-drop place xs))

-- bytes behind the front of a list that goes on
bytes_at-behind : (xs ys : List ℕ) (place n : ℕ) →
    bytes_at (xs ++ ys) (length xs + place) n ≡ bytes_at ys place n
bytes_at-behind xs ys place n = ap (take n) (drop-append-add xs ys place)

-- the stored bytes of a compact record of a pip count that has at most 22 rolls
module _ (p : ℕ) (stored : List ℕ) (few : most_rolls p ≤ 22)
    (long : length stored ≡ record_length compact p) where
  -- the bytes in front
  length-front : length (take 58 stored) ≡ 58
  length-front = omega (arith, length-take 58 stored, long)

  -- the bytes behind the front
  length-behind : length (drop 58 stored) ≡ 16 * most_rolls p
  length-behind = omega (arith, length-drop 58 stored, long)

  -- bytes of the mean and the plays
  front_bytes : (place n : ℕ) → place + n ≤ 58 →
      bytes_at (told_record compact p stored) place n ≡ bytes_at stored place n
  front_bytes place n inside =
      bytes_at-front (take 58 stored)
      (share_before p ++ (drop 58 stored ++ shares_after p)) place n
      (omega (arith, inside, length-front))
      ∙ ap (λ k. take n (drop place (take k stored))) (sym (parts place inside))
      ∙ ap (take n) (drop-take place (58 - place) stored)
      ∙ take-take n (58 - place) (drop place stored) (omega (arith, inside))
    where
      parts : (place : ℕ) → place + n ≤ 58 → place + (58 - place) ≡ 58
      parts place h = omega (arith, h)

  -- bytes behind the front
  shares_bytes : (place n : ℕ) →
      bytes_at (told_record compact p stored) (58 + place) n
      ≡ bytes_at (share_before p ++ (drop 58 stored ++ shares_after p)) place n
  shares_bytes place n =
      ap (λ k. bytes_at (told_record compact p stored) (k + place) n) (sym length-front)
      ∙ bytes_at-behind (take 58 stored)
      (share_before p ++ (drop 58 stored ++ shares_after p)) place n

  -- bytes of the shares of some rolls
  later_bytes : (place n : ℕ) →
      bytes_at (told_record compact p stored) (58 + (16 + place)) n
      ≡ bytes_at (drop 58 stored ++ shares_after p) place n
  later_bytes place n =
      shares_bytes (16 + place) n
      ∙ ap (λ k. bytes_at (share_before p ++ (drop 58 stored ++ shares_after p)) (k + place) n)
      (sym (length-share_before p))
      ∙ bytes_at-behind (share_before p) (drop 58 stored ++ shares_after p) place n

  -- the share of no roll
  told-first : share_of (told_record compact p stored) 0 ≡ cond (p == 0) whole 0
  unfolding share_of share_before whole
  told-first =
      ap (from_be_bytes w128) (shares_bytes 0 16
      ∙ bytes_at-front (share_before p) (drop 58 stored ++ shares_after p) 0 16
      (omega (arith, length-share_before p)))
      ∙ first (p == 0)
    where
      first : (b : Bool) →
          from_be_bytes w128 (bytes_at (to_be_bytes w128 (cond b (36 ^ 22) 0)) 0 16)
          ≡ cond b whole 0
      first true = refl
      first false = refl

  -- a share that is stored
  told-stored : (j : ℕ) → j < most_rolls p →
      share_of (told_record compact p stored) (suc j) ≡ share_of stored j
  unfolding share_of
  told-stored j inside =
      ap (from_be_bytes w128) (ap (λ place. bytes_at (told_record compact p stored) place 16)
      (place_of j)
      ∙ later_bytes (16 * j) 16
      ∙ bytes_at-front (drop 58 stored) (shares_after p) (16 * j) 16
      (omega (arith, length-behind, inside))
      ∙ ap (take 16) (drop-drop (16 * j) 58 stored))
    where
      place_of : (j : ℕ) → 58 + 16 * suc j ≡ 58 + (16 + 16 * j)
      place_of j = omega arith

  -- a share beyond the most rolls
  told-beyond : (k : ℕ) → most_rolls p < k → k ≤ 22 →
      share_of (told_record compact p stored) k ≡ 0
  unfolding share_of shares_after
  told-beyond k beyond le =
      ap (from_be_bytes w128) (ap (λ place. bytes_at (told_record compact p stored) place 16)
      (place_of k (most_rolls p) beyond)
      ∙ later_bytes (16 * most_rolls p + 16 * (k - suc (most_rolls p))) 16
      ∙ ap (λ n. bytes_at (drop 58 stored ++ shares_after p)
      (n + 16 * (k - suc (most_rolls p))) 16) (sym length-behind)
      ∙ bytes_at-behind (drop 58 stored) (shares_after p) (16 * (k - suc (most_rolls p))) 16)
      ∙ none
    where
      place_of : (k m : ℕ) → m < k → 58 + 16 * k ≡ 58 + (16 + (16 * m + 16 * (k - suc m)))
      place_of k m h = omega (arith, h)

      room : (k m : ℕ) → m < k → k ≤ 22 → 16 ≤ 16 * (22 - m) - 16 * (k - suc m)
      room k m h le = omega (arith, h, le)

      none : from_be_bytes w128 (bytes_at (shares_after p) (16 * (k - suc (most_rolls p))) 16) ≡ 0
      none =
          ap (λ l. from_be_bytes w128 (take 16 l))
          (drop-replicate (16 * (k - suc (most_rolls p))) (16 * (22 - most_rolls p)) 0)
          ∙ ap (from_be_bytes w128) (take-replicate 16
          (16 * (22 - most_rolls p) - 16 * (k - suc (most_rolls p))) 0
          (room k (most_rolls p) beyond le))

-- the mean is told by the bytes that store it
pub told_mean : (version : Version) (p : ℕ) (stored : List ℕ) → most_rolls p ≤ 22 →
    length stored ≡ record_length version p →
    mean_of (told_record version p stored) ≡ mean_of stored
unfolding mean_of
told_mean full p stored few long = refl
told_mean compact p stored few long =
    ap (from_be_bytes w128) (front_bytes p stored few long 0 16 (omega arith))

-- a play is told by the bytes that store it
pub told_play : (version : Version) (p : ℕ) (stored : List ℕ) (roll : ℕ) → most_rolls p ≤ 22 →
    length stored ≡ record_length version p → roll < 21 →
    play_of (told_record version p stored) roll ≡ play_of stored roll
unfolding play_of
told_play full p stored roll few long inside = refl
told_play compact p stored roll few long inside =
    ap (from_be_bytes w16)
    (front_bytes p stored few long (16 + 2 * roll) 2 (omega (arith, inside)))

-- the shares are told by those that are stored
pub told_shares : (version : Version) (p : ℕ) (stored : List ℕ) (k : ℕ) → most_rolls p ≤ 22 →
    length stored ≡ record_length version p → k ≤ 22 →
    share_of (told_record version p stored) k
    ≡ told_share version p (λ n. share_of stored (n - first_share version)) k
told_shares full p stored k few long le = ap (share_of stored) (same k)
  where
    same : (k : ℕ) → k ≡ k - 0
    same k = omega arith
told_shares compact p stored zero few long le = told-first p stored few long
told_shares compact p stored (suc k) few long le =
    by (leb (suc k) (most_rolls p)) refl
    ∙ ap (λ n. cond (leb (suc k) (most_rolls p)) (share_of stored n) 0) (before k)
  where
    before : (k : ℕ) → k ≡ suc k - 1
    before k = omega arith

    by : (b : Bool) → leb (suc k) (most_rolls p) ≡ b →
        share_of (told_record compact p stored) (suc k) ≡ cond b (share_of stored k) 0
    by true e = told-stored p stored few long k (leb-true (suc k) (most_rolls p) e)
    by false e =
        told-beyond p stored few long (suc k) (leb-false (suc k) (most_rolls p) e) le

-- a stored share is the one that is told
pub told_stored : (version : Version) (p : ℕ) (stored : List ℕ) (j : ℕ) → most_rolls p ≤ 22 →
    length stored ≡ record_length version p → j < share_count version p →
    share_of (told_record version p stored) (first_share version + j) ≡ share_of stored j
told_stored full p stored j few long inside = ap (share_of stored) (none j)
  where
    none : (j : ℕ) → 0 + j ≡ j
    none j = omega arith
told_stored compact p stored j few long inside =
    ap (share_of (told_record compact p stored)) (next j)
    ∙ told-stored p stored few long j inside
  where
    next : (j : ℕ) → 1 + j ≡ suc j
    next j = omega arith
