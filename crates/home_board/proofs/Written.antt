-- The text that a position is written as, and that it states the position's counts.
use Rattle.std.proofs.Common.{◌≡◌, ℕ, zero, suc, ◌+◌, ◌*◌, ◌<◌, ◌≤◌, ◌==◌, Bool, true, false, not, ◌&&◌, List, [], ◌∷◌}
use Rattle.std.proofs.Common.{◌++◌, Some, map, take, length, get_or, sum, refl, sym, ap, ◌∙◌, arith, append_assoc, lit≤}
use Rattle.std.proofs.Common.{length-append, length-take, add-one, decimal}
use Rattle.std.specs.Fmt.{digits}
use Rattle.std.specs.List.{slice_split, join_with_byte}
use Rattle.std.proofs.lemmas.List.Sums.{sum_by-cons, sum_by-take-le}
use Rattle.std.proofs.lemmas.List.{take_more}
use Rattle.race_model.specs.Prelude.{IsPosition, count_value, IsPositionText}

-- counts in decimal with commas between
abbrev pub joined : List ℕ → List ℕ
joined counts = join_with_byte 44 (map decimal counts)

-- there is no comma among the bytes
abbrev pub no_comma : List ℕ → Bool
no_comma [] = true
no_comma (b ∷ bs) = not (b == 44) && no_comma bs

-- what is used of the text of a count of at most 15
pub record IsShortText (c : ℕ) : Type 0 where
  pub short : 10 * length (decimal c) ≤ 10 + c
  pub value : count_value (decimal c) ≡ Some c
  pub apart : no_comma (decimal c) ≡ true

pub short_text : (c : ℕ) → c ≤ 15 → IsShortText c
unfolding digits
short_text zero h = record { short = lit≤ tt; value = refl; apart = refl }
short_text (suc zero) h = record { short = lit≤ tt; value = refl; apart = refl }
short_text (suc (suc zero)) h = record { short = lit≤ tt; value = refl; apart = refl }
short_text (suc (suc (suc zero))) h = record { short = lit≤ tt; value = refl; apart = refl }
short_text (suc (suc (suc (suc zero)))) h = record { short = lit≤ tt; value = refl; apart = refl }
short_text (suc (suc (suc (suc (suc zero))))) h = record {
  short = lit≤ tt;
  value = refl;
  apart = refl;
}
short_text (suc (suc (suc (suc (suc (suc zero)))))) h = record {
  short = lit≤ tt;
  value = refl;
  apart = refl;
}
short_text (suc (suc (suc (suc (suc (suc (suc zero))))))) h = record {
  short = lit≤ tt;
  value = refl;
  apart = refl;
}
short_text (suc (suc (suc (suc (suc (suc (suc (suc zero)))))))) h = record {
  short = lit≤ tt;
  value = refl;
  apart = refl;
}
short_text (suc (suc (suc (suc (suc (suc (suc (suc (suc zero))))))))) h = record {
  short = lit≤ tt;
  value = refl;
  apart = refl;
}
short_text (suc (suc (suc (suc (suc (suc (suc (suc (suc (suc zero)))))))))) h = record {
  short = lit≤ tt;
  value = refl;
  apart = refl;
}
short_text (suc (suc (suc (suc (suc (suc (suc (suc (suc (suc (suc zero))))))))))) h = record {
  short = lit≤ tt;
  value = refl;
  apart = refl;
}
short_text (suc (suc (suc (suc (suc (suc (suc (suc (suc (suc (suc (suc zero)))))))))))) h =
    record {
      short = lit≤ tt;
      value = refl;
      apart = refl;
    }
short_text (suc (suc (suc (suc (suc (suc (suc (suc (suc (suc (suc (suc (suc zero))))))))))))) h =
    record {
      short = lit≤ tt;
      value = refl;
      apart = refl;
    }
short_text (suc (suc (suc (suc (suc (suc (suc (suc (suc (suc (suc (suc (suc (suc zero))))))))))))))
    h = record {
      short = lit≤ tt;
      value = refl;
      apart = refl;
    }
short_text
    (suc (suc (suc (suc (suc (suc (suc (suc (suc (suc (suc (suc (suc (suc (suc zero)))))))))))))))
    h = record {
      short = lit≤ tt;
      value = refl;
      apart = refl;
    }
short_text
    (suc (suc
    (suc (suc (suc (suc (suc (suc (suc (suc (suc (suc (suc (suc (suc (suc n)))))))))))))))) h =
    absurd (omega arith)

-- a piece without a comma, and what comes after its comma
slice_split-piece : (xs ys : List ℕ) → no_comma xs ≡ true →
    slice_split (λ c. c == 44) (xs ++ 44 ∷ ys) ≡ xs ∷ slice_split (λ c. c == 44) ys
slice_split-piece [] ys h = refl
slice_split-piece (x ∷ xs) ys h = go (x == 44) refl (slice_split-piece xs ys)
  where
    go : (b : Bool) → (x == 44) ≡ b →
        (no_comma xs ≡ true →
        slice_split (λ c. c == 44) (xs ++ 44 ∷ ys) ≡ xs ∷ slice_split (λ c. c == 44) ys) →
        slice_split (λ c. c == 44) ((x ∷ xs) ++ 44 ∷ ys) ≡ (x ∷ xs) ∷ slice_split (λ c. c == 44) ys
    go true e rest = let bad : no_comma (x ∷ xs) ≡ false = rw e refl in cc
    go false e rest = let clear = rw e at h in rw (e, rest clear) refl

-- a text without a comma is one piece
slice_split-last : (xs : List ℕ) → no_comma xs ≡ true → slice_split (λ c. c == 44) xs ≡ xs ∷ []
slice_split-last [] h = refl
slice_split-last (x ∷ xs) h = go (x == 44) refl (slice_split-last xs)
  where
    go : (b : Bool) → (x == 44) ≡ b →
        (no_comma xs ≡ true → slice_split (λ c. c == 44) xs ≡ xs ∷ []) →
        slice_split (λ c. c == 44) (x ∷ xs) ≡ (x ∷ xs) ∷ []
    go true e rest = let bad : no_comma (x ∷ xs) ≡ false = rw e refl in cc
    go false e rest = let clear = rw e at h in rw (e, rest clear) refl

-- the pieces of written counts state them again
pub joined_each : (c : ℕ) (cs : List ℕ) → sum (c ∷ cs) ≤ 15 →
    map count_value (slice_split (λ b. b == 44) (joined (c ∷ cs))) ≡ map (λ c. Some c) (c ∷ cs)
joined_each c [] few =
    let s = short_text c (omega (arith, sum_by-cons (λ x. x) c [])) in
    rw (slice_split-last (decimal c) s.apart, s.value) refl
joined_each c (d ∷ ds) few =
    let all = sum_by-cons (λ x. x) c (d ∷ ds) in
    let s = short_text c (omega arith) in
    let rest = joined_each d ds (omega arith) in
    rw (slice_split-piece (decimal c) (joined (d ∷ ds)) s.apart) (rw (s.value, rest) refl)

-- a position's text states the position
pub joined_states : (x : List ℕ) → IsPosition x → IsPositionText (joined x) x
joined_states [] is = absurd (omega (arith, is.six))
joined_states (c ∷ cs) is = record { six = is.six; each = joined_each c cs is.few }

-- one more count
pub joined-more : (c : ℕ) (cs : List ℕ) (d : ℕ) →
    joined ((c ∷ cs) ++ d ∷ []) ≡ joined (c ∷ cs) ++ 44 ∷ decimal d
joined-more c [] d = refl
joined-more c (e ∷ es) d =
    rw (joined-more e es d)
    (sym (append_assoc (decimal c) (44 ∷ joined (e ∷ es)) (44 ∷ decimal d)))

-- how long the text of counts is
pub length-joined : (c : ℕ) (cs : List ℕ) → sum (c ∷ cs) ≤ 15 →
    10 * length (joined (c ∷ cs)) ≤ 20 * length cs + 10 + sum (c ∷ cs)
length-joined c [] few =
    omega (arith, (short_text c (omega (arith, sum_by-cons (λ x. x) c []))).short)
length-joined c (d ∷ ds) few =
    let all = sum_by-cons (λ x. x) c (d ∷ ds) in
    let s = short_text c (omega arith) in
    let rest = length-joined d ds (omega arith) in
    simp length-append (omega (arith, s.short))

-- one more count after some
pub joined-push : (xs : List ℕ) (d : ℕ) → 0 < length xs →
    joined (xs ++ d ∷ []) ≡ (joined xs ++ 44 ∷ []) ++ decimal d
joined-push [] d some = absurd (omega arith)
joined-push (c ∷ cs) d some =
    joined-more c cs d ∙ sym (append_assoc (joined (c ∷ cs)) (44 ∷ []) (decimal d))

-- the text of the first counts of a position, with one more of them
pub joined-next : (x : List ℕ) (n : ℕ) → 0 < n → n < length x →
    joined (take (n + 1) x) ≡ (joined (take n x) ++ 44 ∷ []) ++ decimal (get_or x n 0)
joined-next x n some h =
    rw (take_more x n 0 h) (joined-push (take n x) (get_or x n 0) (simp length-take (omega arith)))

-- the text of the first counts of a position has room
pub joined_fits : (x : List ℕ) (n : ℕ) → IsPosition x → n < 6 →
    length (joined (take (n + 1) x)) ≤ 12
joined_fits [] n is h = absurd (omega (arith, is.six))
joined_fits (c ∷ cs) n is h =
    let all = sum_by-take-le (λ x. x) (c ∷ cs) (suc n) in
    let few : sum (c ∷ take n cs) ≤ 15 = omega (arith, is.few) in
    let long = length-joined c (take n cs) few in
    let some = length-take n cs in
    rw add-one (omega (arith, some))

-- the text before the next count: a comma where a count was written
abbrev pub before_next : List ℕ → ℕ → List ℕ
before_next x zero = []
before_next x (suc n) = joined (take (suc n) x) ++ 44 ∷ []

-- the next count of a position goes there
pub joined-taken : (x : List ℕ) (n : ℕ) → IsPosition x → n < 6 →
    joined (take (n + 1) x) ≡ before_next x n ++ decimal (get_or x n 0)
joined-taken [] n is h = absurd (omega (arith, is.six))
joined-taken (c ∷ cs) zero is h = refl
joined-taken (c ∷ cs) (suc n) is h =
    joined-next (c ∷ cs) (suc n) (omega arith) (omega (arith, is.six))

-- and there is room for both
pub next_fits : (x : List ℕ) (n : ℕ) → IsPosition x → n < 6 →
    length (before_next x n) + length (decimal (get_or x n 0)) ≤ 12
next_fits x n is h =
    omega (arith, joined_fits x n is h, simp length-append at (ap length (joined-taken x n is h)))

-- after some counts, the text before the next one ends with a comma
pub before_next-some : (x : List ℕ) (n : ℕ) → 0 < n →
    before_next x n ≡ joined (take n x) ++ 44 ∷ []
before_next-some x zero some = absurd (omega arith)
before_next-some x (suc n) some = refl

-- and before the first count there is none
pub joined-before_none : (x : List ℕ) (n : ℕ) → n ≤ 0 → joined (take n x) ≡ before_next x n
joined-before_none x zero none = refl
joined-before_none x (suc n) none = absurd (omega arith)
