-- A Position ID that is written is one of what was written.
use Rattle.std.proofs.Common.{◌≡◌, ◌≢◌, ◌∙◌, ◌<◌, ◌≤◌, ◌==◌, ◌&&◌, ◌+◌, ◌-◌, ◌*◌, ◌/◌, ◌%◌, ◌^◌, ◌∷◌, []}
use Rattle.std.proofs.Common.{ℕ, zero, suc, List, Bool, true, false, length, map, sum, get_or, sym, ap, refl, arith}
use Rattle.std.proofs.Common.{add-zero}
use Rattle.std.proofs.Math.Nat.{pow-succ', div-div-eq-div-mul}
use Rattle.std.proofs.Math.Pow.{pow_mono}
use Rattle.std.proofs.lemmas.Bool.{eqb-true, eq-eqb}
use Rattle.race_model.proofs.Numbers.Sums.{sum-cons}
use Rattle.std.specs.List.{list_all}
use Rattle.notation.specs.Letters.{is_letter, place_of, before, bit, field}
use Rattle.notation.specs.Ids.{ones, key, IsPositionId}
use Rattle.notation.specs.Written.{letter_of, bit_from_left, six_bits, position_id}
use Rattle.notation.proofs.Pieces.{upward}

-- a number that is not the first one is above it
above : (k first : ℕ) → first ≤ k → (k == first) ≡ false → suc first ≤ k
above k first low u =
    let other : k ≢ first = λ e. let bad : true ≡ false = sym (eq-eqb k first e) ∙ u in cc in
    omega (arith, low, other)

-- a test that numbers from one on pass is passed by each
passed : (p : ℕ → Bool) (first n k : ℕ) → list_all p (upward first n) ≡ true → first ≤ k →
    k < first + n → p k ≡ true
passed p first zero k all low high = absurd (omega (arith, low, high))
passed p first (suc n) k all low high =
    by (p first) refl (k == first) refl
    (λ rest more. passed p (suc first) n k rest more (omega (arith, high)))
  where
    by : (b : Bool) → p first ≡ b → (c : Bool) → (k == first) ≡ c
        → (list_all p (upward (suc first) n) ≡ true → suc first ≤ k → p k ≡ true) → p k ≡ true
    by false t c u next = let bad = rw t at all in cc
    by true t true u next = rw (eqb-true k first u) t
    by true t false u next = next (rw t at all) (above k first low u)

-- a number below 64 is that of its letter
letter_place : (n : ℕ) → n < 64 → (place_of (letter_of n) == n) && is_letter (letter_of n) ≡ true
letter_place n low = passed
    (λ n. (place_of (letter_of n) == n) && is_letter (letter_of n)) 0 64 n refl (omega arith) low

-- a number that has the bits of a field is that field
field_is : (text : List ℕ) (first n m : ℕ) →
    ((i : ℕ) → i < n → bit text (first + i) ≡ m / 2 ^ i % 2) →
    m < 2 ^ n → field text first n ≡ m
field_is text first zero m each low = omega (arith, low)
field_is text first (suc n) m each low =
    let here : first ≡ first + zero = omega arith in
    let whole : m / 2 ^ zero ≡ m = omega arith in
    let lowest : bit text first ≡ m % 2 =
    ap (bit text) here ∙ each zero (omega arith) ∙ ap (λ q. q % 2) whole in
    let rest : field text (first + 1) n ≡ m / 2 =
    field_is text (first + 1) n (m / 2)
    (λ i h. ap (bit text) (omega arith) ∙ each (suc i) (omega (arith, h))
    ∙ ap (λ q. q % 2) (ap (λ q. m / q) (pow-succ' 2 i) ∙ sym (div-div-eq-div-mul m 2 (2 ^ i))))
    (omega (arith, low, pow-succ' 2 n)) in
    omega (arith, lowest, rest)

-- how many bits the number of some counts has
ones_low : (n a k : ℕ) → a < 2 ^ k → ones n a < 2 ^ (k + n + 1)
ones_low zero a k low = let e : 2 ^ (k + zero + 1) ≡ 2 * 2 ^ k = ap (λ m. 2 ^ m) (omega arith)
    ∙ pow-succ' 2 k in omega (arith, low, e)
ones_low (suc n) a k low =
    let e : 2 ^ (k + suc n + 1) ≡ 2 * 2 ^ (k + n + 1) = ap (λ m. 2 ^ m) (omega arith)
    ∙ pow-succ' 2 (k + n + 1) in
    omega (arith, ones_low n a k low, e)

-- the same of several counts
key_low : (counts : List ℕ) (a k : ℕ) → a < 2 ^ k →
    key counts a < 2 ^ (k + (length counts + sum counts))
key_low [] a k low = let e : k + (0 + 0) ≡ k = omega arith in rw e low
key_low (n ∷ ns) a k low =
    let e : k + (length ns + sum ns) + n + 1 ≡ k + (length (n ∷ ns) + sum (n ∷ ns)) = omega
    (arith, sum-cons n ns) in
    rw (← e) (ones_low n (key ns a) (k + (length ns + sum ns)) (key_low ns a k low))

-- each of six bits is read again
six_bit : (n place t : ℕ) → t < 6 →
    six_bits n place / 2 ^ (5 - t) % 2 ≡ bit_from_left n (place + t)
six_bit n place zero low = rw add-zero (omega arith)
six_bit n place (suc zero) low = omega arith
six_bit n place (suc (suc zero)) low = omega arith
six_bit n place (suc (suc (suc zero))) low = omega arith
six_bit n place (suc (suc (suc (suc zero)))) low = omega arith
six_bit n place (suc (suc (suc (suc (suc zero))))) low = omega arith
six_bit n place (suc (suc (suc (suc (suc (suc t)))))) low = absurd (omega (arith, low))

-- two tests that hold together hold
both : (a b : Bool) → (a && b) ≡ true → (a ≡ true) × (b ≡ true)
both true b e = (refl, e)
both false b e = cc

-- six bits are below 64, so their letter is one of them
six_low : (n place : ℕ) → six_bits n place < 64
six_low n place = omega arith

-- the letter of six bits stands for them
place_of_six : (n place : ℕ) → place_of (letter_of (six_bits n place)) ≡ six_bits n place
place_of_six n place = eqb-true _ _
    (both _ _ (letter_place (six_bits n place) (six_low n place))).0

-- all are letters
all_letters : (n first count : ℕ) →
    list_all is_letter (map (λ k. letter_of (six_bits n (6 * k))) (upward first count)) ≡ true
all_letters n first zero = refl
all_letters n first (suc count) =
    let is : is_letter (letter_of (six_bits n (6 * first))) ≡ true =
    (both _ _ (letter_place (six_bits n (6 * first)) (six_low n (6 * first)))).1 in
    rw is (all_letters n (suc first) count)

-- what stands at a place
nth : (f : ℕ → ℕ) (first n k : ℕ) → k < n → get_or (map f (upward first n)) k 0 ≡ f (first + k)
nth f first zero k low = absurd (omega (arith, low))
nth f first (suc n) zero low = ap f (omega arith)
nth f first (suc n) (suc k) low = nth f (suc first) n k (omega (arith, low)) ∙ ap f (omega arith)

-- each bit of the number is one of the text
bit_written : (theirs mine : List ℕ) (i : ℕ) → i < 80 →
    bit (position_id theirs mine) i ≡ key theirs (key mine 0) / 2 ^ i % 2
bit_written theirs mine i low =
    let n = key theirs (key mine 0) in
    let j = before i in
    let place : place_of (get_or (position_id theirs mine) (j / 6) 0) ≡ six_bits n (6 * (j / 6)) =
    ap place_of (nth (λ k. letter_of (six_bits n (6 * k))) 0 14 (j / 6) (omega (arith, low))
    ∙ ap (λ k. letter_of (six_bits n (6 * k))) (omega arith)) ∙ place_of_six n (6 * (j / 6)) in
    let back : before (6 * (j / 6) + j % 6) ≡ i = ap before (omega arith) ∙ again i in
    ap (λ p. p / 2 ^ (5 - j % 6) % 2) place ∙ six_bit n (6 * (j / 6)) (j % 6) (omega arith)
    ∙ ap (λ q. n / 2 ^ q % 2) back
  where
    again : (i : ℕ) → before (before i) ≡ i
    again i = omega arith

pub written : (theirs mine : List ℕ) → length theirs ≡ 25 → length mine ≡ 25 →
    50 + (sum theirs + sum mine) ≤ 80 → IsPositionId (position_id theirs mine) theirs mine
written theirs mine long_theirs long_mine few =
    let n = key theirs (key mine 0) in
    let low_mine = key_low mine 0 0 (omega arith) in
    let low : n < 2 ^ 80 =
    omega (
      arith,
      key_low theirs (key mine 0) (0 + (length mine + sum mine)) low_mine,
      pow_mono {i = 0 + (length mine + sum mine) + (length theirs + sum theirs)} {j = 80}
          (omega (arith, long_theirs, long_mine, few)),
    ) in
    let each : (i : ℕ) → i < 80 → bit (position_id theirs mine) (0 + i) ≡ n / 2 ^ i % 2 =
    λ i h. let e : 0 + i ≡ i = omega arith in rw e (bit_written theirs mine i h) in
    record {
      fourteen = refl;
      letters = all_letters n 0 14;
      spare = rw (place_of_six n 78) (omega (arith, low));
      their_places = long_theirs;
      my_places = long_mine;
      ten_bytes = few;
      bits = field_is (position_id theirs mine) 0 80 n each low;
    }
