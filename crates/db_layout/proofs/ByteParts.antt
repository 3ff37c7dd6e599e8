-- Bytes among bytes, and numbers whose bytes are written low byte first.
use Rattle.std.proofs.Common.{◌≡◌, ℕ, ◌+◌, ◌-◌, ◌^◌, ◌<◌, ◌≤◌, List, length, take, drop}
use Rattle.std.proofs.Common.{take-take, sym, ap, subst, ◌∙◌, arith}
use Rattle.std.proofs.lemmas.List.{drop-drop, drop-take}
use Rattle.std.proofs.lemmas.Slice.{between-put_mid}
use Rattle.std.specs.Int.{w128, from_le_bytes, to_le_bytes, from_be_bytes, to_be_bytes}
use Rattle.race_model.specs.Prelude.{bytes_at}
use Rattle.db_layout.proofs.Bytes.{from_be_bytes-to_be_bytes_16}
use borrow.Rule.Slice.PartMut.{put_mid}

-- bytes among bytes
pub bytes_at-inner : (f : List ℕ) (a n b m : ℕ) → b + m ≤ n →
    bytes_at (bytes_at f a n) b m ≡ bytes_at f (a + b) m
bytes_at-inner f a n b m within =
    ap (λ k. take m (drop b (take k (drop a f)))) (parts n b (omega (arith, within)))
    ∙ ap (take m) (drop-take b (n - b) (drop a f))
    ∙ take-take m (n - b) (drop b (drop a f)) (omega (arith, within))
    ∙ ap (take m) (drop-drop b a f)
  where
    parts : (n b : ℕ) → b ≤ n → n ≡ b + (n - b)
    parts n b le = omega arith

-- some of the first bytes
pub bytes_at-front : (f : List ℕ) (n place m : ℕ) → place + m ≤ n →
    bytes_at (take n f) place m ≡ bytes_at f place m
bytes_at-front f n place m within =
    ap (λ k. take m (drop place (take k f))) (parts n place m within)
    ∙ ap (take m) (drop-take place (n - place) f)
    ∙ take-take m (n - place) (drop place f) (omega (arith, within))
  where
    parts : (n place m : ℕ) → place + m ≤ n → n ≡ place + (n - place)
    parts n place m within = omega (arith, within)

-- some of the first bytes are the same in two lists that begin alike
pub bytes_at-agree : (f g : List ℕ) (n place m : ℕ) → take n f ≡ take n g → place + m ≤ n →
    bytes_at f place m ≡ bytes_at g place m
bytes_at-agree f g n place m same within =
    sym (bytes_at-front f n place m within)
    ∙ ap (λ (bs : List ℕ). bytes_at bs place m) same
    ∙ bytes_at-front g n place m within

-- what begins alike does so to any lower place
pub front-agree : (f g : List ℕ) (m n : ℕ) → m ≤ n → take n f ≡ take n g → take m f ≡ take m g
front-agree f g m n le same =
    sym (take-take m n f le) ∙ ap (take m) same ∙ take-take m n g le

-- what is written to a part of a list stands there
pub bytes_at-put : (place n : ℕ) (xs ys : List ℕ) → place ≤ length xs → length ys ≡ n →
    bytes_at (put_mid place (place + n - place) xs ys) place n ≡ ys
bytes_at-put place n xs ys inside long =
    let e : place + n - place ≡ n = omega arith in
    subst (λ (m : ℕ). take m (drop place (put_mid place (place + n - place) xs ys)) ≡ ys) e
    (between-put_mid place (place + n - place) xs ys (place + n) inside (omega arith))

-- the bytes of a number, low byte first, are those with the high byte first, turned round
turned : (n : ℕ) → from_le_bytes w128 (to_le_bytes w128 n) ≡ from_be_bytes w128 (to_be_bytes w128 n)
turned n = omega arith

-- so a number of 128 bits is read back
pub from_le_bytes-to_le_bytes_16 : (n : ℕ) → n < 2 ^ 128 →
    from_le_bytes w128 (to_le_bytes w128 n) ≡ n
from_le_bytes-to_le_bytes_16 n fits = turned n ∙ from_be_bytes-to_be_bytes_16 n fits
