-- Tests: what one that is passed says, and how comparisons of sums are those of their parts.
use Rattle.std.proofs.Common.{◌≡◌, ℕ, suc, ◌+◌, ◌-◌, ◌<◌, ◌≤◌, Bool, true, false, cond, ◌&&◌, Option, Some, None, refl}
use Rattle.std.proofs.Common.{sym, ap, arith, le-leb, eq-eqb, lt-ltb, ◌∙◌, ne_eqb, leb-true, eqb-true, ltb-true, nat_le}
use Rattle.std.proofs.Common.{nat_lt, ◌==◌}

-- both of two tests
pub both_tests : (a b : Bool) → (a && b) ≡ true → (a ≡ true) × (b ≡ true)
both_tests true b e = (refl, e)
both_tests false b e = absurd (cc)

-- a value that is given under a test was tested
pub tested : (b : Bool) (a : Option ℕ) (n : ℕ) → cond b a None ≡ Some n → b ≡ true
tested true a n e = refl
tested false a n e = absurd (cc)

-- tests that imply each other agree
pub same_bool : (a b : Bool) → (a ≡ true → b ≡ true) → (b ≡ true → a ≡ true) → a ≡ b
same_bool true b f g = sym (f refl)
same_bool false true f g = g refl
same_bool false false f g = refl

-- one more on both sides of a comparison
pub nat_le-suc : (a b : ℕ) → nat_le (suc a) (suc b) ≡ nat_le a b
nat_le-suc a b =
    same_bool _ _ (λ h. le-leb _ _ (omega (arith, leb-true (suc a) (suc b) h)))
    (λ h. le-leb _ _ (omega (arith, leb-true a b h)))

-- one more on both sides of an equation
pub eq-suc : (a b : ℕ) → (suc a == suc b) ≡ (a == b)
eq-suc a b =
    same_bool _ _ (λ h. eq-eqb a b (omega (arith, eqb-true (suc a) (suc b) h)))
    (λ h. eq-eqb (suc a) (suc b) (omega (arith, eqb-true a b h)))

-- one more on both sides of a comparison
pub nat_lt-suc : (a b : ℕ) → nat_lt (suc a) (suc b) ≡ nat_lt a b
nat_lt-suc a b =
    same_bool _ _ (λ h. lt-ltb a b (omega (arith, ltb-true (suc a) (suc b) h)))
    (λ h. lt-ltb (suc a) (suc b) (omega (arith, ltb-true a b h)))

-- a test that passes may be left out
pub and-true : (a b : Bool) → b ≡ true → (a && b) ≡ a
and-true true b h = h
and-true false b h = refl

-- parts that agree, tests that agree
pub and-same : (a b u v : Bool) → a ≡ u → b ≡ v → (a && b) ≡ (u && v)
and-same a b u v e f = ap (λ s. s && b) e ∙ ap (λ s. u && s) f

-- the same number on both sides of an equation
pub eq-add : (p a b : ℕ) → (p + a == p + b) ≡ (a == b)
eq-add p a b =
    same_bool _ _ (λ h. eq-eqb a b (omega (arith, eqb-true (p + a) (p + b) h)))
    (λ h. eq-eqb (p + a) (p + b) (omega (arith, eqb-true a b h)))

-- a number taken to the other side of an equation
pub eq-sub : (p a m : ℕ) → p ≤ m → (p + a == m) ≡ (a == m - p)
eq-sub p a m l =
    same_bool _ _ (λ h. eq-eqb a (m - p) (omega (arith, eqb-true (p + a) m h)))
    (λ h. eq-eqb (p + a) m (omega (arith, eqb-true a (m - p) h)))

-- a sum is not less than its first part
pub eq-low : (p a m : ℕ) → m < p → (p + a == m) ≡ false
eq-low p a m l = ne_eqb (p + a) m (λ e. omega arith)
