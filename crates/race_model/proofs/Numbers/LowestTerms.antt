-- A number is one fraction in lowest terms, and a fraction has one number of thousandths.
use Rattle.std.proofs.Common.{◌≡◌, ◌⊎◌, inl, inr, ⊎_elim, ℕ, zero, suc, ◌+◌, ◌-◌, ◌*◌, ◌<◌, ◌≤◌, ap}
use Rattle.std.proofs.Common.{sym, subst, ◌∙◌, arith, le_antisymm, le_of_eq, le_of_mul-le-mul_right}
use Rattle.std.proofs.Common.{lt_of_mul-lt-mul_right}
use Prim.Native.Nat.{◌∣◌}
use Rattle.std.proofs.lemmas.Nat.Gcd.{dvd_refl, dvd-zero, dvd_antisymm}
use Rattle.std.proofs.Math.Nat.{dvd-add, dvd-add_iff_right, dvd-mul_left, dvd-mul_left_of_dvd, dvd-one}
use Rattle.race_model.specs.Prelude.{IsFraction, IsThousandths}

-- only 1 divides both
abbrev IsCoprime : ℕ → ℕ → Type 0
IsCoprime a b = (k : ℕ) → k ∣ a → k ∣ b → k ∣ 1

-- a multiple of one number is by 1 over a multiple of the other
abbrev IsOneApart : ℕ → ℕ → Type 0
IsOneApart a b = (u v : ℕ) × ((u * a ≡ v * b + 1) ⊎ (u * b ≡ v * a + 1))

-- what divides only 1 is 1
one_of : (b : ℕ) → b ∣ 1 → b ≡ 1
one_of b h = dvd-one.0 h

-- one step of Euclid's algorithm, back
from_smaller : (a c : ℕ) → IsOneApart a c → IsOneApart a (a + c)
from_smaller a c (u, v, inl e) = (u + v, v, inl (omega (arith, e)))
from_smaller a c (u, v, inr e) = (u, u + v, inr (omega (arith, e)))

-- two numbers that are apart are so the other way round
swapped : (a b : ℕ) → IsOneApart a b → IsOneApart b a
swapped a b (u, v, inl e) = (u, v, inr e)
swapped a b (u, v, inr e) = (u, v, inl e)

-- numbers with no common divisor have such multiples
one_apart : (n a b : ℕ) → a + b ≤ n → IsCoprime a b → IsOneApart a b
one_apart n zero b le coprime =
    (1, 0, inr (omega (arith, one_of b (coprime b (dvd-zero b) (dvd_refl b)))))
one_apart n (suc a) zero le coprime = (
  1,
  0,
  inl (omega (arith, one_of (suc a) (coprime (suc a) (dvd_refl (suc a)) (dvd-zero (suc a))))),
)
one_apart zero (suc a) (suc b) le coprime = absurd (omega arith)
one_apart (suc n) (suc a) (suc b) le coprime = ⊎_elim
    (λ h. let e : suc a + (b - a) ≡ suc b = omega arith in
    subst (λ m. IsOneApart (suc a) m) e
    (from_smaller (suc a) (b - a)
    (one_apart n (suc a) (b - a) (omega arith)
    (λ k p q. coprime k p (subst (λ m. k ∣ m) e (dvd-add k p q))))))
    (λ h. let e : suc b + (a - b) ≡ suc a = omega arith in
    swapped (suc b) (suc a)
    (subst (λ m. IsOneApart (suc b) m) e
    (from_smaller (suc b) (a - b)
    (one_apart n (suc b) (a - b) (omega arith)
    (λ k p q. coprime k (subst (λ m. k ∣ m) e (dvd-add k p q)) p)))))
    (order a b)
  where
    order : (a b : ℕ) → (a ≤ b) ⊎ (b ≤ a)
    order a b = grind arith

-- what divides a product and has no common divisor with one factor divides the other
divides_other : (d n e : ℕ) → IsCoprime d n → d ∣ n * e → d ∣ e
divides_other d n e coprime h = by (one_apart (d + n) d n (omega arith) coprime)
  where
    by : IsOneApart d n → d ∣ e
    by (u, v, inl s) =
        (dvd-add_iff_right d (dvd-mul_left_of_dvd d h v)).1
        (subst (λ m. d ∣ m) (first u v s) (dvd-mul_left d (e * u)))
      where
        first : (u v : ℕ) → u * d ≡ v * n + 1 → e * u * d ≡ v * (n * e) + e
        first u v s = let t : e * (u * d) ≡ e * (v * n + 1) = ap (λ m. e * m) s in omega (arith, t)
    by (u, v, inr s) =
        (dvd-add_iff_right d (dvd-mul_left d (v * e))).1
        (subst (λ m. d ∣ m) (second u v s) (dvd-mul_left_of_dvd d h u))
      where
        second : (u v : ℕ) → u * n ≡ v * d + 1 → u * (n * e) ≡ v * e * d + e
        second u v s = let t : u * n * e ≡ (v * d + 1) * e = ap (λ m. m * e) s in omega (arith, t)

-- a factor that is not 0 can be left out
pub cancel : (k m n : ℕ) → 0 < k → m * k ≡ n * k → m ≡ n
cancel k m n positive e =
    le_antisymm (le_of_mul-le-mul_right (le_of_eq e) positive)
    (le_of_mul-le-mul_right (le_of_eq (sym e)) positive)

-- a number has one fraction in lowest terms
pub one_fraction : (a b n d m e : ℕ) → 0 < b → IsFraction a b n d → IsFraction a b m e →
    (n ≡ m) × (d ≡ e)
one_fraction a b n d m e positive p q =
    (cancel d n m p.positive (ap (λ k. n * k) same ∙ crossed_products), same)
  where
    crossed_by : n * e * b ≡ m * d * b
    crossed_by =
        let s : n * b * e ≡ a * d * e = ap (λ k. k * e) p.same in
        let t : m * b * d ≡ a * e * d = ap (λ k. k * d) q.same in omega (arith, s, t)

    crossed_products : n * e ≡ m * d
    crossed_products = cancel b (n * e) (m * d) positive crossed_by

    same : d ≡ e
    same = dvd_antisymm
        (divides_other d n e (λ k h l. p.lowest.2 k l h)
        (subst (λ k. d ∣ k) (sym crossed_products) (dvd-mul_left d m)))
        (divides_other e m d (λ k h l. q.lowest.2 k l h)
        (subst (λ k. e ∣ k) crossed_products (dvd-mul_left e n)))

-- a fraction has one number of thousandths
pub one_number_of_thousandths : (n d q r : ℕ) → 0 < d → IsThousandths n d q → IsThousandths n d r →
    q ≡ r
one_number_of_thousandths n d q r positive s t =
    le_antisymm (no_greater q r s t) (no_greater r q t s)
  where
    no_greater : (q r : ℕ) → IsThousandths n d q → IsThousandths n d r → q ≤ r
    no_greater q r s t = halved q r (lt_of_mul-lt-mul_right d both)
      where
        both : 2 * q * d < (2 * r + 2) * d
        both = omega (arith, s.not_over, t.not_under)

        halved : (q r : ℕ) → 2 * q < 2 * r + 2 → q ≤ r
        halved q r h = omega arith
